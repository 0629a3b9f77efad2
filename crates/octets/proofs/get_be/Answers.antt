-- `octets::get_be`: eight bytes as two fours (`be_halves`), else byte by byte.
use mathlib.Core.Path.{ap₂, ◌∙◌}
use Prim.Native.Nat.{ℕ, ◌+◌, ◌*◌, ◌^◌, ◌<◌}
use Rattle.octets.proofs.Laws.{length_part}
use Rattle.octets.proofs.Numbers.{be_halves}
use native.Mathlib.Omega.{arith}
use Rattle.octets.proofs.get_be.Goals as goal

pub overflow_mul-result : goal.overflow_mul-result
overflow_mul-result c =
    let s = c.args.s.now in
    let u : c.byte_by_byte.result < 256 ^ 4 = rw (length_part 0 4 s (omega (arith, c.if-s-eq8.true))) at c.byte_by_byte.ensures.1 in
    omega (arith, u)

pub overflow_add-result : goal.overflow_add-result
overflow_add-result c =
    let s = c.args.s.now in
    let e = c.if-s-eq8.true in
    let u : c.byte_by_byte.result < 256 ^ 4 = rw (length_part 0 4 s (omega (arith, e))) at c.byte_by_byte.ensures.1 in
    let v : c.byte_by_byte-then-s-eq8.result < 256 ^ 4 = rw (length_part 4 4 s (omega (arith, e))) at c.byte_by_byte-then-s-eq8.ensures.1 in
    omega (arith, u, v)

pub returns-then-s-eq8 : goal.returns-then-s-eq8
returns-then-s-eq8 c =
    let s = c.args.s.now in
    let e = c.if-s-eq8.true in
    let u : c.byte_by_byte.result < 256 ^ 4 = rw (length_part 0 4 s (omega (arith, e))) at c.byte_by_byte.ensures.1 in
    let v : c.byte_by_byte-then-s-eq8.result < 256 ^ 4 = rw (length_part 4 4 s (omega (arith, e))) at c.byte_by_byte-then-s-eq8.ensures.1 in
    (ap₂ (λ (h l : ℕ). h * 4294967296 + l) c.byte_by_byte.ensures.0 c.byte_by_byte-then-s-eq8.ensures.0 ∙ be_halves s e, rw e (omega (arith, u, v)))
