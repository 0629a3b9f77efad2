-- One record at the front of bytes, whatever stands behind it: written and read it is the same record, read and written the same bytes.
--
--   back    bytes that begin with the record written for a valid place n begin with record n, and are read as that place
--   forth   bytes that begin with record n begin with the record written for the place that they are read as, a valid place n
-- Assumes nothing.
use mathlib.Core.Path.{◌≡◌, refl, sym, ap, ap₂, ◌∙◌, subst}
use mathlib.Core.Bool.{true, ◌&&◌, and-eq-true_iff}
use mathlib.Core.List.{List, [], ◌∷◌, ◌++◌}
use Prim.Native.Nat.{ℕ, ◌+◌, ◌≤◌}
use native.Mathlib.Nat.{le_refl, lt_of_le_of_lt}
use native.Mathlib.Omega.{arith}
use lib.Dec.{eqb, leb, lit<}
use lib.ListN.{length, get_or, take, drop, length-append, length-take}
use lib.Seq.{take_at, drop_at}
use borrow.Author.Tests.{eq-eqb, le-leb}
use Rattle.octets.specs.Octets.{part, numbers_at, total, Fits, Bytes, be_of}
use Rattle.octets.proofs.Bytes.{bytes_take}
use Rattle.crc32.specs.Crc32.{crc_of}
use Rattle.crc32.proofs.Sealed.{crc_lt}
use Rattle.storage.specs.declared.place.Fields.{Fields}
use Rattle.storage.specs.Layout.{layout_size, record_of, data_in, formed}
use Rattle.storage.specs.Sizes.{place_layout, place_size, data_limit}
use Rattle.storage.specs.Places as place
use Rattle.storage.specs.Places.{id_of, size_of, fields_in, data_of, valid_place, Fitting}
use Rattle.storage.proofs.Layouts as layout
use Rattle.storage.proofs.Records as records
use Rattle.storage.proofs.PlaceCases.{valid_tests}
use Rattle.segment.specs.Records.{record_layout, record_numbers, record_bytes, record_size, check_in, content_in, place_in, sized, is_record, numbers_size, content_offset, least_record}
use Rattle.segment.proofs.Written.{length_record}
use Rattle.segment.proofs.Writing.{size_is}
use Rattle.segment_reader.proofs.RecordTests.{IsRecord, front_part, is_record_lem}

-- ================ what stands at the front

-- numbers of the front are those of the whole
front_numbers : (ws : List ℕ) (o k : ℕ) (s : List ℕ) → o + total ws ≤ k → numbers_at ws o (take k s) ≡ numbers_at ws o s
front_numbers [] o k s h = refl
front_numbers (w ∷ ws) o k s h =
    ap₂ (λ (v : ℕ) (l : List (ℕ × ℕ)). (w, v) ∷ l) (ap be_of (front_part o w k s (omega arith))) (front_numbers ws (o + w) k s (omega arith))

-- the widths of a record's numbers, whatever its data
abbrev widths : List ℕ
widths = (record_layout 0).widths

-- ================ written, then read

module _ (f : Fields) (d rest : List ℕ) (w : Fitting f) (short : length d ≤ data_limit) (b : Bytes d) where
  fits : Fits (record_numbers f d)
  fits =
      (w.id, (w.client, (w.generation, (w.partition, (w.sequence, (w.header, (lt_of_le_of_lt short (lit< tt), (crc_lt d b, tt))))))))

  long : length (record_bytes f d) ≡ least_record + length d
  long = length_record f d ∙ omega arith

  front : take (length (record_bytes f d)) (record_bytes f d ++ rest) ≡ record_bytes f d
  front = take_at (record_bytes f d) rest (length (record_bytes f d)) refl

  numbers : numbers_at widths 0 (record_bytes f d ++ rest) ≡ record_numbers f d
  unfolding record_bytes
  numbers =
      sym (front_numbers widths 0 (length (record_bytes f d)) (record_bytes f d ++ rest) (omega (arith, long)))
      ∙ ap (numbers_at widths 0) front
      ∙ layout.numbers_again (record_layout (length d)) (record_numbers f d) d refl (le_refl (length d)) fits

  -- the i-th number is read back
  number : (i : ℕ) → (get_or (numbers_at widths 0 (record_bytes f d ++ rest)) i (0, 0)).1 ≡ (get_or (record_numbers f d) i (0, 0)).1
  number i = ap (λ (l : List (ℕ × ℕ)). (get_or l i (0, 0)).1) numbers

  pub size_back : size_of (record_bytes f d ++ rest) ≡ length d
  unfolding size_of
  size_back = number 6

  id_back : id_of (record_bytes f d ++ rest) ≡ f.id
  unfolding id_of
  id_back = number 0

  fields_back : fields_in (record_bytes f d ++ rest) ≡ f
  unfolding fields_in id_of
  fields_back =
      λ i. record {
        id = id_back i;
        client = number 1 i;
        generation = number 2 i;
        partition = number 3 i;
        sequence = number 4 i;
        header = number 5 i;
      }

  check_back : check_in (record_bytes f d ++ rest) ≡ crc_of d
  unfolding check_in
  check_back = number 7

  content_back : content_in (record_bytes f d ++ rest) ≡ d
  unfolding content_in record_bytes
  content_back =
      let s = record_bytes f d ++ rest in
      ap (λ (k : ℕ). part content_offset k s) size_back
      ∙ sym (front_part content_offset (length d) (length (record_bytes f d)) s (omega (arith, long)))
      ∙ ap (part content_offset (length d)) front
      ∙ layout.data_again (record_layout (length d)) (record_numbers f d) d refl (le_refl (length d))

  whole_back : record_size (record_bytes f d ++ rest) ≡ length (record_bytes f d)
  unfolding record_size
  whole_back = ap (λ (k : ℕ). layout_size (record_layout k)) size_back ∙ sym (length_record f d)

  pub behind_back : drop (record_size (record_bytes f d ++ rest)) (record_bytes f d ++ rest) ≡ rest
  behind_back = drop_at (record_bytes f d) rest (record_size (record_bytes f d ++ rest)) (sym whole_back)

  pub sized_back : sized (record_bytes f d ++ rest) ≡ true
  unfolding sized
  sized_back =
      let s = record_bytes f d ++ rest in
      (and-eq-true_iff (leb numbers_size (length s)) (leb (size_of s) data_limit)).1
      (le-leb numbers_size (length s) (omega (arith, length-append (record_bytes f d) rest, long)), le-leb (size_of s) data_limit (omega (arith, size_back)))

  pub record_back : is_record f.id (record_bytes f d ++ rest) ≡ true
  unfolding is_record record_bytes
  record_back =
      let s = record_bytes f d ++ rest in
      let front' : take (record_size s) s ≡ record_bytes f d = ap (λ (k : ℕ). take k s) whole_back ∙ front in
      let form : formed (record_layout (size_of s)) (size_of s) (take (record_size s) s) ≡ true =
      ap₂ (λ (k : ℕ) (t : List ℕ). formed (record_layout k) k t) size_back front'
      ∙ layout.record_formed (record_layout (length d)) (record_numbers f d) d refl (le_refl (length d)) b in
      rw (
        le-leb (size_of s) data_limit (omega (arith, size_back)),
        eq-eqb (id_of s) f.id id_back,
        form,
        eq-eqb (check_in s) (crc_of (content_in s)) (check_back ∙ ap crc_of (sym content_back)),
      )

  pub place_back : place_in (record_bytes f d ++ rest) ≡ place.record_bytes f d
  unfolding place_in
  place_back = ap₂ place.record_bytes fields_back content_back

-- ================ read, then written

module _ (n : ℕ) (s : List ℕ) (b : Bytes s) (v : is_record n s ≡ true) where
  said : IsRecord n s
  said = (is_record_lem n s).0 v

  -- the front of s, as long as the record
  rewritten : layout.Rewritten (record_layout (size_of s)) (size_of s) (take (record_size s) s)
  unfolding is_record
  rewritten =
      let L = record_layout (size_of s) in
      let k = size_of s in
      let t = take (record_size s) s in
      let v₁ = (and-eq-true_iff (leb k data_limit && eqb (id_of s) n && formed L k t) (eqb (check_in s) (crc_of (content_in s)))).0 v in
      let v₂ = (and-eq-true_iff (leb k data_limit && eqb (id_of s) n) (formed L k t)).0 v₁.0 in
      layout.rewritten L k t (bytes_take (record_size s) s b) (layout.tests L k t v₂.1)

  numbers_same : numbers_at widths 0 (take (record_size s) s) ≡ numbers_at widths 0 s
  numbers_same = front_numbers widths 0 (record_size s) s (omega (arith, size_is s))

  content_same : data_in (record_layout (size_of s)) (size_of s) (take (record_size s) s) ≡ content_in s
  unfolding content_in
  content_same = front_part content_offset (size_of s) (record_size s) s (omega (arith, size_is s))

  content_length : length (content_in s) ≡ size_of s
  content_length = ap length (sym content_same) ∙ rewritten.size

  content_bytes : Bytes (content_in s)
  content_bytes = subst Bytes content_same rewritten.bytes

  fitting : Fitting (fields_in s)
  unfolding fields_in id_of
  fitting =
      let w : Fits (numbers_at widths 0 s) = subst Fits numbers_same rewritten.fitting in
      record { id = w.0; client = w.1.0; generation = w.1.1.0; partition = w.1.1.1.0; sequence = w.1.1.1.1.0; header = w.1.1.1.1.1.0 }

  -- it is the record of the fields and data that are read from it
  front_same : take (record_size s) s ≡ record_bytes (fields_in s) (content_in s)
  unfolding record_bytes fields_in id_of size_of check_in
  front_same =
      let f = fields_in s in
      let c = content_in s in
      let numbers₀ : numbers_at widths 0 s ≡ place.place_numbers f (size_of s) ++ ((4, check_in s) ∷ []) = refl in
      let numbers₁ : place.place_numbers f (size_of s) ++ ((4, check_in s) ∷ []) ≡ record_numbers f c =
      ap₂ (λ (k v : ℕ). place.place_numbers f k ++ ((4, v) ∷ [])) (sym content_length) said.data_check in
      rewritten.same
      ∙ ap₂ (record_of (record_layout (size_of s))) (numbers_same ∙ numbers₀ ∙ numbers₁) content_same
      ∙ ap (λ (k : ℕ). record_of (record_layout k) (record_numbers f c) c) (sym content_length)

  abbrev read : records.Read (fields_in s) (content_in s)
  read = records.read_back (fields_in s) (content_in s) fitting (omega (arith, content_length, said.short)) content_bytes

-- the place that record n is read as
pub record Forth (n : ℕ) (s : List ℕ) : Type 0 where
  pub valid : valid_place n (place_in s) ≡ true
  pub written : record_bytes (fields_in (place_in s)) (data_of (place_in s)) ≡ take (record_size s) s
  pub size : record_size (place_in s) ≡ record_size s

pub forth : (n : ℕ) (s : List ℕ) → Bytes s → is_record n s ≡ true → Forth n s
unfolding place_in record_size fields_in id_of
forth n s b v =
    let r = read n s b v in
    record {
      valid = ap (λ (i : ℕ). valid_place i (place_in s)) (sym (said n s b v).id) ∙ r.valid;
      written = ap₂ record_bytes r.fields r.content ∙ sym (front_same n s b v);
      size = ap (λ (k : ℕ). layout_size (record_layout k)) (r.size ∙ content_length n s b v);
    }

-- a record's place has its size, whatever its bytes
pub place_long : (n : ℕ) (s : List ℕ) → is_record n s ≡ true → length (place_in s) ≡ place_size
unfolding place_in place.record_bytes content_in
place_long n s v =
    let c = content_in s in
    let short : length c ≤ data_limit = omega (arith, length-take (size_of s) (drop content_offset s), ((is_record_lem n s).0 v).short) in
    layout.record_length place_layout (place.place_numbers (fields_in s) (length c)) c refl short

-- ================ the record of a place, and bytes behind it

abbrev pub record_then : List ℕ → List ℕ → List ℕ
record_then p rest = record_bytes (fields_in p) (data_of p) ++ rest

pub record Back (n : ℕ) (p rest : List ℕ) : Type 0 where
  pub size : record_size (record_then p rest) ≡ record_size p
  pub behind : drop (record_size (record_then p rest)) (record_then p rest) ≡ rest
  pub sized : sized (record_then p rest) ≡ true
  pub valid : is_record n (record_then p rest) ≡ true
  pub place : place_in (record_then p rest) ≡ p

pub back : (n : ℕ) (p rest : List ℕ) → Bytes p → valid_place n p ≡ true → Back n p rest
unfolding record_size fields_in id_of
back n p rest b v =
    let o = (records.only_records n p b).0 v in
    let r = records.read_back o.fields o.content o.fitting o.short o.bytes in
    let f : fields_in p ≡ o.fields = ap fields_in o.same ∙ r.fields in
    let d : data_of p ≡ o.content = ap data_of o.same ∙ r.content in
    let k : size_of p ≡ length (data_of p) = ap size_of o.same ∙ r.size ∙ ap length (sym d) in
    let w : Fitting (fields_in p) = subst Fitting (sym f) o.fitting in
    let short : length (data_of p) ≤ data_limit = omega (arith, ap length d, o.short) in
    let c : Bytes (data_of p) = subst Bytes (sym d) o.bytes in
    record {
      size = ap (λ (i : ℕ). layout_size (record_layout i)) (size_back (fields_in p) (data_of p) rest w short c ∙ sym k);
      behind = behind_back (fields_in p) (data_of p) rest w short c;
      sized = sized_back (fields_in p) (data_of p) rest w short c;
      valid = ap (λ (i : ℕ). is_record i (record_then p rest)) (sym (valid_tests n p v).id) ∙ record_back (fields_in p) (data_of p) rest w short c;
      place = place_back (fields_in p) (data_of p) rest w short c ∙ ap₂ place.record_bytes f d ∙ sym o.same;
    }
