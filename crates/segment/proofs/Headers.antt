-- A header written field by field, and its length.
-- Assumes nothing.
use mathlib.Core.Path.{◌≡◌, refl, ap, ap₂, ◌∙◌}
use mathlib.Core.List.{List, [], ◌∷◌, ◌++◌}
use Prim.Native.Nat.{ℕ, ◌+◌, zero-le}
use native.Mathlib.Omega.{arith}
use borrow.Rule.Slice.PartMut.{put_mid}
use lib.ListN.{length, take, drop, replicate, length-append}
use Rattle.octets.specs.Octets.{write_at, be_bytes, fields_of}
use Rattle.octets.proofs.Laws.{length_part, length_write, mid_write, write_write, write_all, write_three}
use Rattle.octets.proofs.Numbers.{length_fields, first_field, next_field}
use Rattle.segment.specs.declared.header.Stamp.{Stamp}
use Rattle.segment.specs.Header.{version, header_partition, first_id, header_size, key_size, before_key, behind_key, reserved, header_bytes}

-- the fields before the reserved bytes
abbrev pub named : Stamp → List ℕ
named z = fields_of (before_key z) ++ (z.key ++ fields_of behind_key)

pub length_named : (z : Stamp) → length z.key ≡ key_size → length (named z) ≡ 40
length_named z k =
    length-append (fields_of (before_key z)) (z.key ++ fields_of behind_key)
    ∙ ap₂ (λ (a b : ℕ). a + b) (length_fields (before_key z)) (length-append z.key (fields_of behind_key) ∙ ap₂ (λ (a b : ℕ). a + b) k (length_fields behind_key))

pub length_header : (z : Stamp) → length z.key ≡ key_size → length (header_bytes z) ≡ header_size
unfolding header_bytes
length_header z k = length-append (named z) reserved ∙ ap (λ (n : ℕ). n + 88) (length_named z k)

-- six writes, each behind the one before
pub header_written : (z : Stamp) (m l₁ l₂ l₃ l₄ l₅ y : List ℕ) → length m ≡ header_size → length z.key ≡ key_size
    → l₁ ≡ write_at 0 (be_bytes 4 version) m → l₂ ≡ write_at 4 (be_bytes 8 z.time) l₁ → l₃ ≡ write_at 12 z.key l₂
    → l₄ ≡ write_at 28 (be_bytes 4 header_partition) l₃ → l₅ ≡ write_at 32 (be_bytes 8 first_id) l₄
    → y ≡ replicate (length (take 88 (drop 40 l₅))) 0
    → put_mid 40 88 l₅ y ≡ header_bytes z
unfolding header_bytes
header_written z m l₁ l₂ l₃ l₄ l₅ y n k e₁ e₂ e₃ e₄ e₅ e₆ =
    let a = fields_of (before_key z) in
    let c = fields_of behind_key in
    let la : length a ≡ 12 = length_fields (before_key z) in
    let f₁ = first_field 0 4 version m l₁ e₁ in
    let f₂ : l₂ ≡ write_at 0 a m = next_field ((4, version) ∷ []) 0 8 z.time m l₁ l₂ zero-le f₁ e₂ in
    let n₁ : length (write_at 0 a m) ≡ header_size = length_write 0 a m (omega (arith, la)) ∙ n in
    let f₃ : l₃ ≡ write_at 12 z.key (write_at 0 a m) = e₃ ∙ ap (write_at 12 z.key) f₂ in
    let n₃ : length l₃ ≡ header_size = ap length f₃ ∙ length_write 12 z.key (write_at 0 a m) (omega (arith, n₁, k)) ∙ n₁ in
    let f₄ = first_field 28 4 header_partition l₃ l₄ e₄ in
    let f₅ : l₅ ≡ write_at 28 c l₃ = next_field ((4, header_partition) ∷ []) 28 8 first_id l₃ l₄ l₅ (omega (arith, n₃)) f₄ e₅ in
    let f₆ : l₅ ≡ write_at 0 (named z) m =
    f₅ ∙ ap (write_at 28 c) f₃ ∙ write_three m a z.key c 12 28 la (omega (arith, k)) (omega (arith, n)) in
    let ln = length_named z k in
    let n₆ : length l₅ ≡ header_size = ap length f₆ ∙ length_write 0 (named z) m (omega (arith, ln)) ∙ n in
    let ly : length (take 88 (drop 40 l₅)) ≡ 88 = length_part 40 88 l₅ (omega (arith, n₆)) in
    mid_write 40 128 l₅ y reserved refl (e₆ ∙ ap (λ (i : ℕ). replicate i 0) ly)
    ∙ ap (write_at 40 reserved) f₆
    ∙ write_write 0 40 (named z) reserved m zero-le (omega (arith, ln))
    ∙ write_all (named z ++ reserved) m (length-append (named z) reserved ∙ omega (arith, ln, n))
