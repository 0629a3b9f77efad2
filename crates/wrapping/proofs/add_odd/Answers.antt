-- `wrapping::add_odd` meets its contract. The branch says whether the bit adds a.
-- Assumes nothing.
use Rattle.std.proofs.Common.{arith}
use Rattle.wrapping.proofs.Halves.{odd_add, even_keep}
use Rattle.wrapping.proofs.add_odd.Goals as goal

pub returns-then-b-eq1 : goal.returns-then-b-eq1
returns-then-b-eq1 c = odd_add _ _ _ _ c.if-b-eq1.true

pub returns-else-b-eq1 : goal.returns-else-b-eq1
returns-else-b-eq1 c = even_keep _ _ _ _ (omega arith) c.ranges.acc.fits
