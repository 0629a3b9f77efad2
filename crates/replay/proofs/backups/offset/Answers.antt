-- `backups::offset`: the two limits bound the product.
-- Assumes nothing.
use Prim.Native.Nat.{ℕ, ◌*◌, ◌≤◌}
use native.Mathlib.Nat.{mul-le-mul}
use native.Mathlib.Omega.{arith}
use Rattle.replay.proofs.backups.offset.Goals as goal

bounded : (i size : ℕ) → i ≤ 6 → size ≤ 1144 → i * size ≤ 6 * 1144
bounded i size a b = mul-le-mul {n₂ = 6} {m₂ = 1144} a b

pub overflow_mul-result : goal.overflow_mul-result
overflow_mul-result c = omega (arith, bounded c.args.i c.args.size c.requires.0 c.requires.1)

pub returns : goal.returns
returns c = bounded c.args.i c.args.size c.requires.0 c.requires.1
