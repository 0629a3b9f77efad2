-- `entries_fit`: ok says whether the closing marks of the entries below i and below R fit.
use mathlib.Core.Path.{◌≡◌}
use Prim.Native.Nat.{min}
use Rattle.base.specs.Below.{all}
use Rattle.cluster.specs.State.{entry_at}
use Rattle.cluster.specs.Refusals.{closing_fits}
use Rattle.mark_checks.proofs.entries_fit.Given as goal

abbrev pub invariant-loop-i : goal.invariant-loop-i
invariant-loop-i l = l.ok ≡ all (λ j. closing_fits (entry_at l.entries j).closing l.shape.places) (min l.i l.r)
