-- `wrapping::product` meets its contract. The loop's invariant: acc + a × b is the product, modulo 2^64.
-- Assumes nothing.
use Rattle.std.proofs.Common.{◌≡◌, ◌+◌, ◌*◌, ◌%◌, ◌^◌, ◌<◌}
use Rattle.wrapping.proofs.product.Given as goal

abbrev pub invariant-loop-b : goal.invariant-loop-b
invariant-loop-b l = ((l.acc + l.a * l.b) % 2 ^ 64 ≡ (l.k * l.c) % 2 ^ 64) × (l.acc < 2 ^ 64)

abbrev pub decreases-loop-b : goal.decreases-loop-b
decreases-loop-b l = l.b
