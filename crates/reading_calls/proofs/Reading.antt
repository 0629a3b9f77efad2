-- read is its rows and the bytes of a place.
-- Assumes nothing.
use mathlib.Core.Path.{◌≡◌, refl}
use mathlib.Core.Bool.{false, ◌||◌}
use mathlib.Core.List.{List, ◌++◌}
use mathlib.Core.Logic.{⊎_elim}
use Prim.Native.Nat.{ℕ, ◌≤◌, ◌<◌}
use native.Mathlib.Omega.{arith}
use lib.Dec.{eqb, ltb}
use borrow.Author.Tests.{eqb-false, ltb-false}
use Rattle.base.proofs.Tests.{lt_or_le, neither}
use Rattle.fate.specs.declared.Fate.{Fate}
use Rattle.cluster.specs.declared.Shape.{Shape}
use Rattle.cluster.specs.declared.Server.{Server}
use Rattle.cluster.specs.declared.Call.TheVariants as call
use Rattle.cluster.specs.State.{State, mark_at}
use Rattle.cluster.specs.Refusals.{Input, nothing_to_read, no_replica_at, only_open, replica_rows, checks_of}
use Rattle.cluster.specs.Step.{effect, rest, step}
use Rattle.checks.specs.Results.{input_of}

module _ (h : Shape) (x : State) (s i n : ℕ) (f : Fate) (given : List ℕ) where
  abbrev p : Input
  p = input_of (call.Read s i n f) given

  pub read_whole : step h x p ≡ rest (replica_rows h x s (no_replica_at h.replicas i) only_open
      ++ ((checks_of h x p (call.Read s i n f)).sending ++ (checks_of h x p (call.Read s i n f)).receiving)) x (effect h x p (call.Read s i n f))
  unfolding step
  read_whole = refl

-- 16 of read: the place is one of the medium's
pub readable : (v : Server) (i n : ℕ) → nothing_to_read v i n ≡ false → (1 ≤ n) × (n ≤ mark_at v i)
readable v i n e =
    let a = neither (eqb n 0 || ltb (mark_at v i) n) (ltb v.acked n) e in
    let b = neither (eqb n 0) (ltb (mark_at v i) n) a.0 in
    let z = eqb-false n 0 b.0 in
    ((⊎_elim (λ (l : n < 1). absurd (z (omega arith))) (λ l. l) (lt_or_le n 1)), ltb-false (mark_at v i) n b.1)
