-- The counts that a call's line answers are within the buffers.
-- Assumes nothing.
use mathlib.Core.Path.{◌≡◌, ap}
use mathlib.Core.List.{List}
use Prim.Native.Nat.{ℕ, ◌≤◌}
use native.Mathlib.Omega.{arith}
use lib.ListN.{length, length-append}
use Rattle.std.specs.Prelude.{Option, Some}
use Rattle.octets.specs.Octets.{write_at}
use Rattle.cluster.specs.declared.Call.{Call}
use Rattle.lines.specs.declared.forms.Line.{Line}
use Rattle.lines.specs.declared.forms.Line.TheVariants as line
use Rattle.lines.specs.Forms.{Meaning, bad, cluster, asked}
use Rattle.lines.proofs.Gives.{Gives}

-- a write is no longer than what it leaves
write_within : (a l e : List ℕ) → e ≡ write_at 0 a l → length a ≤ length e
unfolding write_at
write_within a l e p = omega (arith, simp length-append at (ap length p))

pub counted : (m : Meaning) (r : Option Line) (c : Call) (d k : ℕ) (x y u v : List ℕ) → r ≡ Some (line.Asked c d k) → Gives m r x y u v → (d ≤ length y) × (k ≤ length v)
counted bad r c d k x y u v e g = let z : ◌≡◌ {A = ℕ} 0 1 = cc (e, g.value) in absurd (omega arith)
counted (cluster a b) r c d k x y u v e g = let z : ◌≡◌ {A = ℕ} 0 1 = cc (e, g.value) in absurd (omega arith)
counted (asked c' ds ls) r c d k x y u v e g =
    let p : d ≡ length ds = cc (e, g.value) in
    let q : k ≡ length ls = cc (e, g.value) in
    (omega (arith, write_within ds x y g.content_after), omega (arith, write_within ls u v g.locks_after))
