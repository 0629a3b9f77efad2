-- `listed::repeats`. The invariant: the list repeats a number just if what is left of it does.
use mathlib.Core.Path.{◌≡◌}
use lib.ListN.{drop}
use Rattle.recovery.specs.Recovery.{repeats}
use Rattle.driver_list.proofs.listed.repeats.Given as goal

abbrev pub invariant-loop-k : goal.invariant-loop-k
invariant-loop-k l = repeats l.listed ≡ repeats (drop l.k l.listed)
