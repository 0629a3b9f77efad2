-- The files of a log, one place at a time: what is left to write, written into what stands there, is the whole.
-- Assumes nothing.
use mathlib.Core.Path.{◌≡◌, refl, sym, ap, ap₂, ◌∙◌}
use mathlib.Core.Bool.{true}
use mathlib.Core.List.{List, [], ◌∷◌, ◌++◌}
use Prim.Native.Nat.{ℕ, zero, suc, ◌+◌, ◌-◌, ◌*◌, ◌<◌, ◌≤◌, zero-le}
use native.Mathlib.Omega.{arith}
use borrow.Rule.Slice.PartMut.{put_mid}
use lib.ListN.{length, length-append}
use Rattle.octets.specs.Octets.{write_at, be_bytes}
use Rattle.octets.proofs.Laws.{length_part, length_be, mid_write, write_write, write_all, write_none}
use Rattle.storage.specs.Sizes.{place_size, medium_size, place_offset}
use Rattle.storage.specs.Places.{size_of, fields_in, data_of, valid_place}
use Rattle.storage.specs.Log.{place_at, places_from, mark_of}
use Rattle.storage.proofs.Scan.{log_valid}
use Rattle.storage.proofs.PlaceCases.{valid_tests}
use Rattle.segment.specs.declared.header.Stamp.{Stamp}
use Rattle.segment.specs.Header.{header_size, header_bytes}
use Rattle.segment.specs.Records.{record_bytes, record_size, longest_record, least_record}
use Rattle.segment.specs.Pair.{offset_size, records_of, offsets_from, records_size, AllSized}
use Rattle.segment.proofs.Written.{size_written}

-- ---- the places behind place n, of k

abbrev pub left : ℕ → ℕ → List ℕ → List (List ℕ)
left k n m = places_from (k - n) (n + 1) m

pub left_all : (k : ℕ) (m : List ℕ) → left k 0 m ≡ places_from k 1 m
left_all k m = let q : k - 0 ≡ k = omega arith in ap (λ (j : ℕ). places_from j 1 m) q

pub left_next : (k n : ℕ) (m : List ℕ) → n < k → left k n m ≡ place_at (n + 1) m ∷ left k (n + 1) m
unfolding places_from
left_next k n m h = let q : k - n ≡ suc (k - (n + 1)) = omega arith in rw q

pub left_none : (k n : ℕ) (m : List ℕ) → k ≤ n → left k n m ≡ []
unfolding places_from
left_none k n m h = let q : k - n ≡ 0 = omega arith in rw q

pub length_place : (k n : ℕ) (m : List ℕ) → n < k → medium_size k ≤ length m → length (place_at (n + 1) m) ≡ place_size
unfolding place_at
length_place k n m h l = length_part (place_offset (n + 1)) place_size m (omega arith)

-- ---- their size

-- a record is so many bytes and its data
pub size_is : (p : List ℕ) → record_size p ≡ least_record + size_of p
unfolding record_size
size_is p = omega arith

pub size_next : (k n : ℕ) (m : List ℕ) → n < k → records_size (left k n m) ≡ record_size (place_at (n + 1) m) + records_size (left k (n + 1) m)
unfolding records_size
size_next k n m h = ap records_size (left_next k n m h)

pub size_none : (k n : ℕ) (m : List ℕ) → k ≤ n → records_size (left k n m) ≡ 0
unfolding records_size
size_none k n m h = ap records_size (left_none k n m h)

-- one place more: its record's size
pub size_turn : (k n r : ℕ) (m : List ℕ) → n < k → AllSized k m → r ≡ record_size (place_at (n + 1) m)
    → (records_size (left k n m) ≡ r + records_size (left k (n + 1) m)) × (r ≤ longest_record)
size_turn k n r m h z e = (
  size_next k n m h ∙ ap (λ (i : ℕ). i + records_size (left k (n + 1) m)) (sym e),
  omega (arith, e, size_is (place_at (n + 1) m), z (n + 1) (omega arith) (omega arith)),
)

-- a file of k records is at most so long
pub sizes_bound : (k j n : ℕ) (m : List ℕ) → AllSized k m → 1 ≤ n → n + j ≤ k + 1 → records_size (places_from j n m) ≤ longest_record * j
unfolding places_from records_size
sizes_bound k zero n m z o h = omega arith
sizes_bound k (suc j) n m z o h =
    omega (arith, size_is (place_at n m), z n o (omega arith), sizes_bound k j (n + 1) m z (omega arith) (omega arith))

-- ---- their records and offsets

pub records_next : (k n at end : ℕ) (m s ys : List ℕ) → n < k → medium_size k ≤ length m → AllSized k m
    → at ≤ length s → end ≡ at + record_size (place_at (n + 1) m) → ys ≡ record_bytes (fields_in (place_at (n + 1) m)) (data_of (place_at (n + 1) m))
    → write_at at (records_of (left k n m)) s ≡ write_at end (records_of (left k (n + 1) m)) (put_mid at (end - at) s ys)
unfolding records_of
records_next k n at end m s ys h l z b e f =
    let p = place_at (n + 1) m in
    let r = record_bytes (fields_in p) (data_of p) in
    let lr : length r ≡ record_size p = size_written p (length_place k n m h l) (z (n + 1) (omega arith) (omega arith)) in
    let reach : at + length r ≡ end = omega (arith, lr, e) in
    ap (λ (ps : List (List ℕ)). write_at at (records_of ps) s) (left_next k n m h)
    ∙ sym (write_write at end r (records_of (left k (n + 1) m)) s b reach)
    ∙ ap (write_at end (records_of (left k (n + 1) m))) (sym (mid_write at end s ys r reach f))

pub offsets_next : (k n i at end : ℕ) (m s s' : List ℕ) → n < k → i ≤ length s → end ≡ at + record_size (place_at (n + 1) m)
    → s' ≡ write_at i (be_bytes offset_size at) s
    → write_at i (offsets_from at (left k n m)) s ≡ write_at (i + offset_size) (offsets_from end (left k (n + 1) m)) s'
unfolding offsets_from
offsets_next k n i at end m s s' h b e f =
    let r = left k (n + 1) m in
    ap (λ (ps : List (List ℕ)). write_at i (offsets_from at ps) s) (left_next k n m h)
    ∙ sym (write_write i (i + offset_size) (be_bytes offset_size at) (offsets_from (at + record_size (place_at (n + 1) m)) r) s b (ap (λ (j : ℕ). i + j) (length_be offset_size at)))
    ∙ ap₂ (λ (o : ℕ) (l : List ℕ). write_at (i + offset_size) (offsets_from o r) l) (sym e) (sym f)

pub records_end : (k n at : ℕ) (m s : List ℕ) → k ≤ n → write_at at (records_of (left k n m)) s ≡ s
unfolding records_of
records_end k n at m s h = ap (λ (ps : List (List ℕ)). write_at at (records_of ps) s) (left_none k n m h) ∙ write_none s at

pub offsets_end : (k n i at : ℕ) (m s : List ℕ) → k ≤ n → write_at i (offsets_from at (left k n m)) s ≡ s
unfolding offsets_from
offsets_end k n i at m s h = ap (λ (ps : List (List ℕ)). write_at i (offsets_from at ps) s) (left_none k n m h) ∙ write_none s i

-- ---- the whole files

pub length_records : (k j n : ℕ) (m : List ℕ) → medium_size k ≤ length m → AllSized k m → 1 ≤ n → n + j ≤ k + 1
    → length (records_of (places_from j n m)) ≡ records_size (places_from j n m)
unfolding places_from records_of records_size
length_records k zero n m l z o h = refl
length_records k (suc j) n m l z o h =
    let p = place_at n m in
    let e : n ≡ n - 1 + 1 = omega arith in
    let lp : length p ≡ place_size = ap (λ (i : ℕ). length (place_at i m)) e ∙ length_place k (n - 1) m (omega arith) l in
    length-append (record_bytes (fields_in p) (data_of p)) (records_of (places_from j (n + 1) m))
    ∙ ap₂ (λ (a b : ℕ). a + b) (size_written p lp (z n o (omega arith))) (length_records k j (n + 1) m l z (omega arith) (omega arith))

pub length_offsets : (o : ℕ) (ps : List (List ℕ)) → length (offsets_from o ps) ≡ offset_size * length ps
unfolding offsets_from
length_offsets o [] = refl
length_offsets o (p ∷ ps) =
    length-append (be_bytes offset_size o) (offsets_from (o + record_size p) ps)
    ∙ ap₂ (λ (a b : ℕ). a + b) (length_be offset_size o) (length_offsets (o + record_size p) ps)
    ∙ omega arith

-- a header, and what stands behind it
pub file_written : (z : Stamp) (s ys r l : List ℕ) → length ys ≡ header_size → length s ≡ header_size + length r → ys ≡ header_bytes z
    → l ≡ write_at header_size r (put_mid 0 header_size s ys) → l ≡ header_bytes z ++ r
file_written z s ys r l n w e f =
    let b = header_bytes z in
    let size : length b ≡ header_size = ap length (sym e) ∙ n in
    f
    ∙ ap (write_at header_size r) (mid_write 0 header_size s ys b (omega (arith, size)) e)
    ∙ write_write 0 header_size b r s zero-le (omega (arith, size))
    ∙ write_all (b ++ r) s (length-append b r ∙ omega (arith, size, w))

-- ---- which places may be written out

-- every place of a log is valid, so its length is within the limit
pub all_sized : (N k : ℕ) (m : List ℕ) → k ≤ mark_of N m → AllSized k m
all_sized N k m l zero lo hi = absurd (omega arith)
all_sized N k m l (suc n) lo hi =
    let q : n + 1 ≡ suc n = omega arith in
    let v : valid_place (suc n) (place_at (suc n) m) ≡ true = rw q at (log_valid N n m (omega arith)) in
    (valid_tests (suc n) (place_at (suc n) m) v).short
