-- `next`: the product is reduced before the sum.
-- Assumes nothing.
use Rattle.std.proofs.Common.{◌^◌}
use native.Mathlib.Nat.{mod-add-mod}
use Rattle.generator.specs.Load.{next}
use Rattle.generator.proofs.next.Goals as goal

pub returns : goal.returns
unfolding next
returns c = rw c.product.ensures (mod-add-mod _ (2 ^ 64) _)
