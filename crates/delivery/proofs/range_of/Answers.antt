-- `delivery::range_of`: N up to 1,000 and i below 7 keep the product and the sum within 64 bits (`span_fits`).
use mathlib.Core.Path.{refl}
use Prim.Native.Nat.{ℕ, ◌+◌, ◌*◌, ◌≤◌, ◌<◌, ◌^◌}
use native.Mathlib.Nat.{mul-le-mul}
use native.Mathlib.Omega.{arith}
use Rattle.storage.specs.Sizes.{places_limit, medium_size}
use Rattle.delivery.proofs.range_of.Goals as goal

span_fits : (N i : ℕ) → N ≤ places_limit → i < 7 → (i * medium_size N < 2 ^ 64) × (i * medium_size N + medium_size N < 2 ^ 64)
span_fits N i n l =
    let p : i * medium_size N ≤ 7 * 72064 = mul-le-mul {n₂ = 7} {m₂ = 72064} (omega arith) (omega arith) in
    (omega arith, omega arith)

pub overflow_mul-result : goal.overflow_mul-result
overflow_mul-result c = rw c.medium_size-size.ensures (omega (arith, (span_fits _ _ c.requires.0 c.requires.1).0))

pub overflow_mul-result-2 : goal.overflow_mul-result-2
overflow_mul-result-2 c = rw c.medium_size-size.ensures (omega (arith, (span_fits _ _ c.requires.0 c.requires.1).0))

pub overflow_add-result : goal.overflow_add-result
overflow_add-result c = rw c.medium_size-size.ensures (omega (arith, (span_fits _ _ c.requires.0 c.requires.1).1))

pub returns : goal.returns
returns c = rw c.medium_size-size.ensures (refl, refl)
