-- `octets::all_zero`. The invariant: ok, and whether the bytes that are still to come are zeros, decide.
use mathlib.Core.Path.{◌≡◌}
use mathlib.Core.Bool.{◌&&◌}
use lib.ListN.{drop}
use Rattle.octets.specs.Octets.{all_zero}
use Rattle.octets.proofs.all_zero.Given as goal

abbrev pub invariant-loop-b : goal.invariant-loop-b
invariant-loop-b l = all_zero l.s ≡ (l.ok && all_zero (drop l.b-index l.s))
