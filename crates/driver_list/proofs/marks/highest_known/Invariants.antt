-- `marks::highest_known`. The invariant: the higher of the best so far and the highest of those left is the highest.
use mathlib.Core.Path.{◌≡◌}
use Prim.Native.Nat.{max}
use lib.ListN.{drop}
use Rattle.recovery.specs.Recovery.{highest_known}
use Rattle.driver_list.proofs.marks.highest_known.Given as goal

abbrev pub invariant-loop-i : goal.invariant-loop-i
invariant-loop-i l = highest_known l.v l.listed ≡ max l.best (highest_known l.v (drop l.i-index l.listed))
