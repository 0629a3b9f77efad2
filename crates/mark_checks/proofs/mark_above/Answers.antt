-- `mark_above`: the four servers are the test over all of them, written out; the register's entries come first.
use Rattle.base.specs.Below.{all}
use Rattle.cluster.specs.Refusals.{mark_above}
use Rattle.mark_checks.proofs.mark_above.Goals as goal
use Rattle.std.proofs.lemmas.Bool.Decides.{nat_tests}
use native.Mathlib.Omega.{arith}

pub returns : goal.returns
unfolding mark_above all
returns c = grind (arith, nat_tests)
