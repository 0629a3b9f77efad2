-- A place written from a record, and the places of all records, one at a time.
-- Assumes nothing.
use mathlib.Core.Path.{◌≡◌, refl, sym, ap, ap₂, ◌∙◌}
use mathlib.Core.Bool.{Bool, false, not, ◌||◌}
use mathlib.Core.List.{List}
use Prim.Native.Nat.{ℕ, suc, ◌+◌, ◌-◌, ◌*◌, ◌<◌, ◌≤◌, zero-le}
use native.Mathlib.Omega.{arith}
use borrow.Rule.Slice.PartMut.{put_mid}
use borrow.Author.Tests.{not-false}
use lib.ListN.{length, take, drop, replicate}
use lib.Seq.{drop-drop}
use Rattle.octets.specs.Octets.{Bytes, part, write_at, be_bytes, fields_of}
use Rattle.octets.proofs.Laws.{between_part, length_part, length_write, mid_write, write_write}
use Rattle.octets.proofs.Numbers.{length_fields}
use Rattle.crc32.specs.Crc32.{crc_of}
use Rattle.crc32.proofs.Sealed.{seal_all}
use Rattle.storage.specs.Layout.{check_offset, head_of, padded}
use Rattle.storage.specs.Sizes.{place_layout, place_size, data_limit, slots_size, place_offset}
use Rattle.storage.specs.Places.{place_numbers, size_of, fields_in, record_bytes}
use Rattle.storage.proofs.Layouts.{length_head, record_length}
use Rattle.storage.proofs.RecordWritten.{fill_written}
use Rattle.segment.specs.Records.{record_size, content_in, place_in, is_record, numbers_size, content_offset}
use Rattle.segment.proofs.Written.{numbers_kept}
use Rattle.import_checks.specs.Refusals.{records_unfit}
use Rattle.segment_import.specs.Import.{filled}
use Rattle.segment.proofs.Writing.{size_is}
use Rattle.segment_reader.proofs.RecordTests.{IsRecord, is_record_lem}
use Rattle.base.proofs.Tests.{neither}

-- ---- one place

pub length_content : (s : List ℕ) → record_size s ≤ length s → length (content_in s) ≡ size_of s
unfolding content_in
length_content s h = length_part content_offset (size_of s) s (omega (arith, size_is s))

module _ (s m : List ℕ) (b : Bytes s) (size : length m ≡ place_size) (short : size_of s ≤ data_limit) (whole : record_size s ≤ length s) where
  abbrev d : List ℕ
  d = content_in s

  abbrev fs : List (ℕ × ℕ)
  fs = place_numbers (fields_in s) (length (content_in s))

  numbers : part 0 numbers_size s ≡ fields_of fs
  numbers =
      sym (numbers_kept s b (omega (arith, size_is s)))
      ∙ ap (λ (k : ℕ). fields_of (place_numbers (fields_in s) k)) (sym (length_content s whole))

  -- the four writes
  place_four : (l₁ l₂ y l₃ : List ℕ) → l₁ ≡ write_at 0 (part 0 numbers_size s) m → l₂ ≡ write_at numbers_size (content_in s) l₁
      → (let k = numbers_size + length (content_in s) in
      y ≡ replicate (length (take (check_offset place_layout - k) (drop k l₂))) 0
      → l₃ ≡ write_at (check_offset place_layout) (be_bytes 4 (crc_of (take (check_offset place_layout) (put_mid k (check_offset place_layout - k) l₂ y)))) (put_mid k (check_offset place_layout - k) l₂ y) → l₃ ≡ place_in s)
  unfolding place_in record_bytes
  place_four l₁ l₂ y l₃ e₁ e₂ e₃ e₄ =
      let k = numbers_size + length d in
      let ld = length_content s whole in
      let f₁ : l₁ ≡ write_at 0 (fields_of fs) m = e₁ ∙ ap (λ (r : List ℕ). write_at 0 r m) numbers in
      let n₁ : length l₁ ≡ place_size = ap length f₁ ∙ length_write 0 (fields_of fs) m (omega (arith, length_fields fs, size)) ∙ size in
      let f₂ : put_mid k (check_offset place_layout - k) l₂ y ≡ write_at numbers_size (padded place_layout d) l₁ = fill_written d l₁ l₂ y n₁ (omega (arith, ld, short)) e₂ e₃ in
      let f₃ : put_mid k (check_offset place_layout - k) l₂ y ≡ write_at 0 (head_of place_layout fs d) m =
      f₂ ∙ ap (write_at numbers_size (padded place_layout d)) f₁
      ∙ write_write 0 numbers_size (fields_of fs) (padded place_layout d) m zero-le (ap (λ (j : ℕ). 0 + j) (length_fields fs)) in
      seal_all (check_offset place_layout) (head_of place_layout fs d) m (put_mid k (check_offset place_layout - k) l₂ y) l₃ (length_head place_layout fs d refl (omega (arith, ld, short))) (sym size) f₃ e₄

  -- the same, with the length that the code has read
  pub place_written : (r : ℕ) (l₁ l₂ y l₃ : List ℕ) → r ≡ size_of s → l₁ ≡ write_at 0 (part 0 numbers_size s) m → l₂ ≡ write_at numbers_size (take (content_offset + r - content_offset) (drop content_offset s)) l₁
      → y ≡ replicate (length (take (check_offset place_layout - (numbers_size + r)) (drop (numbers_size + r) l₂))) 0
      → (let p = put_mid (numbers_size + r) (check_offset place_layout - (numbers_size + r)) l₂ y in l₃ ≡ write_at (check_offset place_layout) (be_bytes 4 (crc_of (take (check_offset place_layout) p))) p) → l₃ ≡ place_in s
  unfolding content_in
  place_written r l₁ l₂ y l₃ q e₁ e₂ e₃ e₄ =
      let w : r ≡ length d = q ∙ sym (length_content s whole) in
      let same : take (content_offset + r - content_offset) (drop content_offset s) ≡ content_in s = between_part content_offset r s ∙ ap (λ (j : ℕ). part content_offset j s) q in
      let after : ℕ → List ℕ = λ j. put_mid (numbers_size + j) (check_offset place_layout - (numbers_size + j)) l₂ y in
      place_four l₁ l₂ y l₃ e₁ (e₂ ∙ ap (λ (c : List ℕ). write_at numbers_size c l₁) same)
      (e₃ ∙ ap (λ (j : ℕ). replicate (length (take (check_offset place_layout - (numbers_size + j)) (drop (numbers_size + j) l₂))) 0) w)
      (e₄ ∙ ap (λ (j : ℕ). write_at (check_offset place_layout) (be_bytes 4 (crc_of (take (check_offset place_layout) (after j)))) (after j)) w)

-- ---- all places

pub length_place : (s : List ℕ) → size_of s ≤ data_limit → record_size s ≤ length s → length (place_in s) ≡ place_size
unfolding place_in record_bytes
length_place s short whole =
    record_length place_layout (place_numbers (fields_in s) (length (content_in s))) (content_in s) refl (omega (arith, length_content s whole, short))

module _ (n count at : ℕ) (file : List ℕ) (h : n < count) where
  left : count - n ≡ suc (count - (n + 1))
  left = omega arith

  abbrev fine : Bool
  fine = is_record (n + 1) (drop at file)

  abbrev others : Bool
  others = records_unfit (n + 1 + 1) (count - (n + 1)) (drop (record_size (drop at file)) (drop at file))

  next_unfit : records_unfit (n + 1) (count - n) (drop at file) ≡ (not fine || others)
  unfolding records_unfit
  next_unfit = ap (λ (k : ℕ). records_unfit (n + 1) k (drop at file)) left

  -- what is known of the next record while all that are left are fit
  pub this_record : records_unfit (n + 1) (count - n) (drop at file) ≡ false → IsRecord (n + 1) (drop at file)
  this_record e = (is_record_lem (n + 1) (drop at file)).0 (not-false fine (neither (not fine) others (sym next_unfit ∙ e)).0)

  pub next_records : (r : ℕ) → records_unfit (n + 1) (count - n) (drop at file) ≡ false → r ≡ record_size (drop at file)
      → records_unfit (n + 1 + 1) (count - (n + 1)) (drop (at + r) file) ≡ false
  next_records r e q =
      ap (λ (j : ℕ). records_unfit (n + 1 + 1) (count - (n + 1)) (drop (at + j) file)) q
      ∙ ap (records_unfit (n + 1 + 1) (count - (n + 1))) (sym (drop-drop (record_size (drop at file)) at file))
      ∙ (neither (not fine) others (sym next_unfit ∙ e)).1

  -- the place that is written, at the offset that the code keeps
  pub filled_next : (r a : ℕ) (m ys : List ℕ) → r ≡ record_size (drop at file) → a ≡ slots_size + place_size * n → ys ≡ place_in (drop at file) → length ys ≡ place_size
      → filled (n + 1) (count - n) (drop at file) m ≡ filled (n + 1 + 1) (count - (n + 1)) (drop (at + r) file) (put_mid a (a + place_size - a) m ys)
  unfolding filled
  filled_next r a m ys q w f l =
      let s = drop at file in
      let o : a ≡ place_offset (n + 1) = omega (arith, w) in
      let m' : write_at (place_offset (n + 1)) (place_in s) m ≡ put_mid a (a + place_size - a) m ys =
      ap (λ (j : ℕ). write_at j (place_in s) m) (sym o) ∙ sym (mid_write a (a + place_size) m ys (place_in s) (omega (arith, l, ap length f)) f) in
      ap (λ (k : ℕ). filled (n + 1) k s m) left
      ∙ ap₂ (λ (t l : List ℕ). filled (n + 1 + 1) (count - (n + 1)) t l) (drop-drop (record_size s) at file ∙ ap (λ (j : ℕ). drop (at + j) file) (sym q)) m'

pub filled_end : (n count at : ℕ) (file m : List ℕ) → count ≤ n → filled (n + 1) (count - n) (drop at file) m ≡ m
unfolding filled
filled_end n count at file m h = let z : count - n ≡ 0 = omega arith in ap (λ (k : ℕ). filled (n + 1) k (drop at file) m) z
