-- `marks::first_at`. The invariant: the first at the mark is the first of those left.
use mathlib.Core.Path.{◌≡◌}
use lib.ListN.{drop}
use Rattle.recovery.specs.Recovery.{first_at}
use Rattle.driver_list.proofs.marks.first_at.Given as goal

abbrev pub invariant-loop-i : goal.invariant-loop-i
invariant-loop-i l = first_at l.v l.m l.listed ≡ first_at l.v l.m (drop l.i-index l.listed)
