-- `replicas_fit`: 1, 3, 5 and 7 are the definition's.
use native.Mathlib.Omega.{arith}
use Rattle.std.proofs.lemmas.Bool.Decides.{nat_tests}
use Rattle.cluster.specs.Refusals.{replicas_fit}
use Rattle.shape_checks.proofs.replicas_fit.Goals as goal

pub returns-in-1 : goal.returns-in-1
unfolding replicas_fit
returns-in-1 c = grind (arith, nat_tests)

pub returns-in_default : goal.returns-in_default
unfolding replicas_fit
returns-in_default c = grind (arith, nat_tests)
