-- `octets::set_be`. The invariant: the i low bytes of x, then the bytes from i on, are all the bytes of v.
use mathlib.Core.Path.{sym, ap, ◌∙◌}
use lib.ListN.{length}
use mathlib.Core.List.{List, ◌++◌, append-nil}
use Prim.Native.Nat.{ℕ}
use lib.Seq.{drop-length}
use Rattle.octets.specs.Octets.{be_bytes}
use Rattle.octets.proofs.Lists.{spell_next, spell_end}
use native.Mathlib.Omega.{arith}
use Rattle.octets.proofs.set_be.Goals as goal

pub loop-i-init : goal.loop-i-init
loop-i-init c = sym (ap (λ (r : List ℕ). be_bytes (length c.args.dst.now) c.args.v ++ r) (drop-length c.args.dst.now) ∙ append-nil _)

pub loop-i-preserved : goal.loop-i-preserved
loop-i-preserved c = c.loop-i.invariant ∙ spell_next _ c.loop-i.i _ c.loop-i-test.true (omega arith)

pub returns : goal.returns
returns c = sym (c.loop-i.invariant ∙ spell_end _ c.loop-i.i _ c.loop-i-test.false)
