-- `answer::size`: an accepted shape bounds the product.
-- Assumes nothing.
use Rattle.shapes.proofs.Bounds.{bounded}
use Rattle.answers.proofs.Accepted.{media_fit}
use native.Mathlib.Omega.{arith}
use Rattle.answers.proofs.answer.size.Goals as goal

pub medium_size-requires : goal.medium_size-requires
medium_size-requires c = omega (arith, bounded c.args.h c.requires)

pub overflow_mul-result : goal.overflow_mul-result
overflow_mul-result c = rw c.medium_size.ensures (omega (arith, media_fit c.args.h c.requires))

pub returns-clause-upper_bound : goal.returns-clause-upper_bound
returns-clause-upper_bound c = rw c.medium_size.ensures (media_fit c.args.h c.requires)
