-- `wrapping::product` meets its contract. The loop's invariant: acc + a × b is the product, modulo 2^64.
-- Assumes nothing.
use Rattle.std.proofs.Common.{◌∙◌, mod-lt, zero-add, arith}
use Rattle.wrapping.proofs.Halves.{turn, finished}
use Rattle.wrapping.proofs.product.Goals as goal

pub loop-b-init : goal.loop-b-init
loop-b-init c = (rw zero-add, omega arith)

pub loop-b-smaller : goal.loop-b-smaller
loop-b-smaller c = omega arith

pub loop-b-preserved : goal.loop-b-preserved
loop-b-preserved c = (
  rw c.add_odd-acc.ensures (turn _ _ _ _ ∙ c.loop-b.invariant.0),
  rw c.add_odd-acc.ensures (mod-lt _ (omega arith)),
)

pub returns : goal.returns
returns c = finished _ _ _ _ _ c.loop-b.invariant.0 c.loop-b.invariant.1 (omega arith)
