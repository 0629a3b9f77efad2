-- `lent::size`: the two limits bound the product.
-- Assumes nothing.
use Prim.Native.Nat.{◌*◌, ◌≤◌}
use native.Mathlib.Nat.{mul-le-mul_left}
use native.Mathlib.Omega.{arith}
use Rattle.storage.specs.Sizes.{medium_size}
use Rattle.replay.proofs.lent.size.Goals as goal

pub overflow_mul-result : goal.overflow_mul-result
overflow_mul-result c =
    let h = c.args.h in
    let s : medium_size h.places ≤ 1072 = omega arith in
    let w : h.replicas * medium_size h.places ≤ h.replicas * 1072 = mul-le-mul_left h.replicas s in
    rw c.medium_size.ensures (omega arith)
