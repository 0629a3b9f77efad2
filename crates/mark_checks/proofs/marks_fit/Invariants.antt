-- `marks_fit`: ok says whether the recorded marks below i and below R are at most N.
use mathlib.Core.Path.{◌≡◌}
use Prim.Native.Nat.{min}
use lib.Dec.{leb}
use lib.ListN.{get_or}
use Rattle.base.specs.Below.{all}
use Rattle.mark_checks.proofs.marks_fit.Given as goal

abbrev pub invariant-loop-i : goal.invariant-loop-i
invariant-loop-i l = l.ok ≡ all (λ j. leb (get_or l.marks j 0) l.shape.places) (min l.i l.r)
