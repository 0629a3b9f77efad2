-- `is_outside`: the cases of refusal 1 in the definition's order; R and N bound the product (`media_fit`).
use native.Mathlib.Omega.{arith}
use Rattle.std.proofs.lemmas.Bool.Decides.{nat_tests}
use Rattle.cluster.specs.Refusals.{outside}
use Rattle.shape_checks.proofs.Sizes.{replicas_le, media_fit}
use Rattle.shape_checks.proofs.is_outside.Goals as goal

pub overflow_mul-r : goal.overflow_mul-r
overflow_mul-r c = grind (arith, nat_tests, replicas_le, media_fit)

pub returns-then-media-r : goal.returns-then-media-r
unfolding outside
returns-then-media-r c = grind (arith, nat_tests)

pub returns-else-media-r : goal.returns-else-media-r
unfolding outside
returns-else-media-r c = grind (arith, nat_tests)
