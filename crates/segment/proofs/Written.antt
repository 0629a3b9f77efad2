-- A record written from a place: the place's numbers as they are, the data check, the data, the check of all that.
-- Assumes nothing.
use mathlib.Core.Path.{◌≡◌, sym, ap, ap₂, ◌∙◌}
use mathlib.Core.List.{List, ◌++◌, append-nil}
use Prim.Native.Nat.{ℕ, ◌+◌, ◌-◌, ◌≤◌, zero-le}
use native.Mathlib.Omega.{arith}
use lib.ListN.{length, take, replicate, length-append}
use Rattle.octets.specs.Octets.{Bytes, part, write_at, be_bytes, fields_of}
use Rattle.octets.proofs.Laws.{length_part, write_write}
use Rattle.octets.proofs.Numbers.{length_fields, next_field}
use Rattle.octets.proofs.Reading.{numbers_back}
use Rattle.crc32.specs.Crc32.{crc_of}
use Rattle.crc32.proofs.Sealed.{length_sealed, seal_all}
use Rattle.storage.specs.Layout.{layout_size, padded, head_of}
use Rattle.storage.specs.Sizes.{place_layout, place_size, data_limit}
use Rattle.storage.specs.declared.place.Fields.{Fields}
use Rattle.storage.specs.Places.{place_numbers, id_of, size_of, fields_in, data_of}
use Rattle.segment.specs.Records.{record_layout, record_numbers, record_bytes, record_size, numbers_size, content_offset}

-- no zeros stand behind the data of a record
pub unpadded : (d : List ℕ) → padded (record_layout (length d)) d ≡ d
unpadded d =
    let q : length d + 0 - length d ≡ 0 = omega arith in
    ap (λ (n : ℕ). d ++ replicate n 0) q ∙ append-nil d

pub length_record : (f : Fields) (d : List ℕ) → length (record_bytes f d) ≡ layout_size (record_layout (length d))
unfolding record_bytes
length_record f d =
    length_sealed (head_of (record_layout (length d)) (record_numbers f d) d)
    ∙ ap (λ (n : ℕ). n + 4)
    (length-append (fields_of (record_numbers f d)) (padded (record_layout (length d)) d)
    ∙ ap₂ (λ (a b : ℕ). a + b) (length_fields (record_numbers f d)) (ap length (unpadded d)))
    ∙ omega arith

-- a place's numbers, written as they were read, are its first bytes
pub numbers_kept : (s : List ℕ) → Bytes s → numbers_size ≤ length s → fields_of (place_numbers (fields_in s) (size_of s)) ≡ part 0 numbers_size s
unfolding fields_in id_of size_of
numbers_kept s b h = numbers_back place_layout.widths 0 s b h

pub length_data : (p : List ℕ) → length p ≡ place_size → size_of p ≤ data_limit → length (data_of p) ≡ size_of p
unfolding data_of size_of
length_data p l h = length_part numbers_size (size_of p) p (omega arith)

-- a record is as long as its place says
pub size_written : (p : List ℕ) → length p ≡ place_size → size_of p ≤ data_limit → length (record_bytes (fields_in p) (data_of p)) ≡ record_size p
unfolding record_size
size_written p l h = length_record (fields_in p) (data_of p) ∙ ap (λ (k : ℕ). layout_size (record_layout k)) (length_data p l h)

-- the four writes
pub record_written : (p m l₁ l₂ l₃ l₄ : List ℕ) → Bytes p → length p ≡ place_size → size_of p ≤ data_limit → length m ≡ record_size p
    → l₁ ≡ write_at 0 (part 0 numbers_size p) m → l₂ ≡ write_at numbers_size (be_bytes 4 (crc_of (data_of p))) l₁ → l₃ ≡ write_at content_offset (data_of p) l₂
    → l₄ ≡ write_at (content_offset + size_of p) (be_bytes 4 (crc_of (take (content_offset + size_of p) l₃))) l₃
    → l₄ ≡ record_bytes (fields_in p) (data_of p)
unfolding record_bytes record_size
record_written p m l₁ l₂ l₃ l₄ b l h n e₁ e₂ e₃ e₄ =
    let d = data_of p in
    let ld = length_data p l h in
    let L = record_layout (length d) in
    let fs = place_numbers (fields_in p) (length d) in
    let whole = record_numbers (fields_in p) d in
    let numbers : part 0 numbers_size p ≡ fields_of fs = sym (numbers_kept p b (omega arith)) ∙ ap (λ (k : ℕ). fields_of (place_numbers (fields_in p) k)) (sym ld) in
    let f₁ : l₁ ≡ write_at 0 (fields_of fs) m = e₁ ∙ ap (λ (r : List ℕ). write_at 0 r m) numbers in
    let f₂ : l₂ ≡ write_at 0 (fields_of whole) m = next_field fs 0 4 (crc_of d) m l₁ l₂ zero-le f₁ e₂ in
    let f₃ : l₃ ≡ write_at 0 (fields_of whole ++ d) m =
    e₃ ∙ ap (write_at content_offset d) f₂ ∙ write_write 0 content_offset (fields_of whole) d m zero-le (ap (λ (k : ℕ). 0 + k) (length_fields whole)) in
    let head : fields_of whole ++ d ≡ head_of L whole d = ap (λ (r : List ℕ). fields_of whole ++ r) (sym (unpadded d)) in
    let size : length (head_of L whole d) ≡ content_offset + size_of p =
    ap length (sym head) ∙ length-append (fields_of whole) d ∙ ap₂ (λ (a c : ℕ). a + c) (length_fields whole) ld in
    seal_all (content_offset + size_of p) (head_of L whole d) m l₃ l₄ size (omega (arith, n)) (f₃ ∙ ap (λ (r : List ℕ). write_at 0 r m) head) e₄
