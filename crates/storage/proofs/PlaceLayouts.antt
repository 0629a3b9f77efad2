-- A place in any layout (specs/Places, first half): the cases of its validity, in the order in which the code tries them, and all that it
-- says; and, whatever width the sequence has and however many zeros stand before the check, condition 2's two promises, by one proof:
--
--   read-back      the record of fields of their widths and of 0 to 28 bytes is a valid place of its ID, and fields and data are read back
--   only-records   bytes are a valid place n exactly if they are the record written for some fields with ID n
-- Assumes nothing.
use mathlib.Core.Path.{◌≡◌, refl, sym, ap, ap₂, ◌∙◌, subst}
use mathlib.Core.Bool.{Bool, true, false, ◌&&◌, and-false, and_assoc, and-eq-true_iff}
use mathlib.Core.List.{List, [], ◌∷◌, ◌++◌}
use Prim.Native.Nat.{ℕ, ◌+◌, ◌-◌, ◌<◌, ◌≤◌}
use mathlib.Core.Logic.{◌↔◌}
use native.Mathlib.Nat.{lt_of_le_of_lt}
use native.Mathlib.Omega.{arith}
use lib.ListN.{length, get_or, take, drop}
use lib.Dec.{eqb, lit<}
use borrow.Author.Tests.{eq-eqb, ne_eqb, eqb-true}
use Rattle.octets.specs.Octets.{part, be_of, offset_of, numbers_at, Fits, Bytes, all_zero}
use Rattle.octets.proofs.Reading.{parts_join}
use Rattle.crc32.specs.Crc32.{checked}
use Rattle.storage.specs.declared.place.Fields.{Fields}
use Rattle.storage.specs.Layout.{Layout, data_offset, check_offset, layout_size, record_of, number_in, formed}
use Rattle.storage.specs.Sizes.{data_limit}
use Rattle.storage.specs.Places.{numbers_as, record_as, fields_as, size_as, data_as, valid_as}
use Rattle.storage.proofs.Layouts as layout

-- both pieces of a list of zeros
pub zero_append : (s t : List ℕ) → all_zero (s ++ t) ≡ (all_zero s && all_zero t)
unfolding all_zero
zero_append [] t = refl
zero_append (b ∷ s) t = ap (λ (r : Bool). eqb b 0 && r) (zero_append s t) ∙ sym (and_assoc (eqb b 0) (all_zero s) (all_zero t))

module _ (L : Layout) where
  -- the zeros behind the data
  abbrev tail_of : List ℕ → List ℕ
  tail_of s = part (data_offset L + size_as L s) (L.limit + L.zeros - size_as L s) s

  module _ (n : ℕ) (s : List ℕ) where
    not_formed : formed L (size_as L s) s ≡ false → false ≡ valid_as L n s
    not_formed h = sym (ap (λ (b : Bool). eqb (number_in L 0 s) n && b) h ∙ and-false (eqb (number_in L 0 s) n))

    pub bad_length : (length s ≡ layout_size L → ⊥) → false ≡ valid_as L n s
    bad_length h = not_formed (layout.bad_length L (size_as L s) s h)

    pub bad_id : (number_in L 0 s ≡ n → ⊥) → false ≡ valid_as L n s
    bad_id h = rw (ne_eqb (number_in L 0 s) n h)

    module _ (l : length s ≡ layout_size L) where
      pub bad_size : L.limit < size_as L s → false ≡ valid_as L n s
      bad_size h = not_formed (layout.bad_size L (size_as L s) s l h)

      module _ (z : size_as L s ≤ L.limit) where
        pub bad_tail : all_zero (tail_of s) ≡ false → false ≡ valid_as L n s
        bad_tail h = not_formed (layout.bad_tail L (size_as L s) s l z h)

        pub by_check : number_in L 0 s ≡ n → all_zero (tail_of s) ≡ true → checked (check_offset L) s ≡ valid_as L n s
        by_check i h = sym (rw (eq-eqb (number_in L 0 s) n i) (layout.by_check L (size_as L s) s l z h))

        -- the zeros and the check are what is left
        pub by_tail : number_in L 0 s ≡ n → valid_as L n s ≡ (all_zero (tail_of s) && checked (check_offset L) s)
        by_tail i = go (all_zero (tail_of s)) refl
          where
            go : (b : Bool) → all_zero (tail_of s) ≡ b → valid_as L n s ≡ (b && checked (check_offset L) s)
            go true h = sym (by_check i h)
            go false h = sym (bad_tail h)

  -- they are those up to the most data, and those before the check
  pub tail_split : (s : List ℕ) → size_as L s ≤ L.limit
      → all_zero (tail_of s) ≡ (all_zero (part (data_offset L + size_as L s) (L.limit - size_as L s) s) && all_zero (part (data_offset L + L.limit) L.zeros s))
  tail_split s h =
      let k = size_as L s in
      let o = data_offset L in
      let n = L.limit - k in
      let sum : n + L.zeros ≡ L.limit + L.zeros - k = omega arith in
      let at : o + k + n ≡ o + L.limit = omega arith in
      ap (λ (i : ℕ). all_zero (part (o + k) i s)) (sym sum) ∙ ap all_zero (sym (parts_join (o + k) n L.zeros s))
      ∙ zero_append (part (o + k) n s) (part (o + k + n) L.zeros s)
      ∙ ap (λ (i : ℕ). all_zero (part (o + k) n s) && all_zero (part i L.zeros s)) at

  -- the bytes behind the data, as the code takes them
  pub tail_is : (k : ℕ) (s : List ℕ) → k ≡ size_as L s → take (check_offset L - (data_offset L + k)) (drop (data_offset L + k) s) ≡ tail_of s
  tail_is k s e =
      let q : check_offset L - (data_offset L + k) ≡ L.limit + L.zeros - k = omega arith in
      ap₂ (λ (i j : ℕ). take i (drop (data_offset L + j) s)) (q ∙ ap (λ (j : ℕ). L.limit + L.zeros - j) e) e

  pub record Tests (n : ℕ) (s : List ℕ) : Type 0 where
    pub id : number_in L 0 s ≡ n
    pub form : layout.Tests L (size_as L s) s

  pub valid_tests : (n : ℕ) (s : List ℕ) → valid_as L n s ≡ true → Tests n s
  valid_tests n s v =
      let b = (and-eq-true_iff (eqb (number_in L 0 s) n) (formed L (size_as L s) s)).0 v in
      record { id = eqb-true (number_in L 0 s) n b.0; form = layout.tests L (size_as L s) s b.1 }

-- ================ records

-- a place with a sequence of w bytes, and z zeros before the check: 8 and 4 in the journal's layout, 4 and 0 in the one before
abbrev pub sequenced : ℕ → ℕ → Layout
sequenced w z = record { widths = 8 ∷ 4 ∷ 4 ∷ 4 ∷ w ∷ 4 ∷ 4 ∷ []; limit = data_limit; zeros = z }

-- what is read of the record of fields and data
pub record Read (L : Layout) (f : Fields) (d : List ℕ) : Type 0 where
  pub valid : valid_as L f.id (record_as L f d) ≡ true
  pub fields : fields_as L (record_as L f d) ≡ f
  pub size : size_as L (record_as L f d) ≡ length d
  pub content : data_as L (record_as L f d) ≡ d

-- the record written for some fields with ID n
pub record Written (L : Layout) (n : ℕ) (s : List ℕ) : Type 0 where
  pub fields : Fields
  pub content : List ℕ
  pub fitting : Fits (numbers_as L fields 0)
  pub short : length content ≤ data_limit
  pub bytes : Bytes content
  pub id : fields.id ≡ n
  pub same : s ≡ record_as L fields content

module _ (w z : ℕ) where
  abbrev L : Layout
  L = sequenced w z

  -- the numbers, read one behind the other, are those of the fields and the length
  as_read : (s : List ℕ) → numbers_at L.widths 0 s ≡ numbers_as L (fields_as L s) (size_as L s)
  as_read s =
      let header : 0 + 8 + 4 + 4 + 4 + w ≡ offset_of L.widths 5 = omega arith in
      let size : 0 + 8 + 4 + 4 + 4 + w + 4 ≡ offset_of L.widths 6 = omega arith in
      ap₂ (λ (i j : ℕ).
      (8, number_in L 0 s) ∷ (4, number_in L 1 s) ∷ (4, number_in L 2 s) ∷ (4, number_in L 3 s) ∷ (w, number_in L 4 s)
      ∷ (4, be_of (part i 4 s)) ∷ (4, be_of (part j 4 s)) ∷ []) header size

  -- the length fits too
  with_length : (f : Fields) (k : ℕ) → Fits (numbers_as L f 0) → k ≤ data_limit → Fits (numbers_as L f k)
  with_length f k h short = (h.0, (h.1.0, (h.1.1.0, (h.1.1.1.0, (h.1.1.1.1.0, (h.1.1.1.1.1.0, (lt_of_le_of_lt short (lit< tt), tt)))))))

  module _ (f : Fields) (d : List ℕ) (h : Fits (numbers_as L f 0)) (short : length d ≤ data_limit) where
    abbrev stored : List ℕ
    stored = record_as L f d

    -- the i-th number is read back
    number : (i : ℕ) → (get_or (numbers_as L (fields_as L stored) (size_as L stored)) i (0, 0)).1 ≡ (get_or (numbers_as L f (length d)) i (0, 0)).1
    number i =
        ap (λ (l : List (ℕ × ℕ)). (get_or l i (0, 0)).1)
        (sym (as_read stored) ∙ layout.numbers_again L (numbers_as L f (length d)) d refl short (with_length f (length d) h short))

    same_id : number_in L 0 stored ≡ f.id
    same_id = number 0

    same_size : size_as L stored ≡ length d
    same_size = number 6

    fields_back : fields_as L (record_as L f d) ≡ f
    fields_back =
        λ i. record {
          id = same_id i;
          client = number 1 i;
          generation = number 2 i;
          partition = number 3 i;
          sequence = number 4 i;
          header = number 5 i;
        }

    content_back : data_as L (record_as L f d) ≡ d
    content_back = rw same_size (layout.data_again L (numbers_as L f (length d)) d refl short)

    valid_back : Bytes d → valid_as L f.id (record_as L f d) ≡ true
    valid_back b = rw (eq-eqb (number_in L 0 (record_as L f d)) f.id same_id, same_size) (layout.record_formed L (numbers_as L f (length d)) d refl short b)

    pub read_back : Bytes d → Read L f d
    read_back b = record { valid = valid_back b; fields = fields_back; size = same_size; content = content_back }

  written : (n : ℕ) (s : List ℕ) → Bytes s → valid_as L n s ≡ true → Written L n s
  written n s b e =
      let v = valid_tests L n s e in
      let r = layout.rewritten L (size_as L s) s b v.form in
      let h : Fits (numbers_as L (fields_as L s) (size_as L s)) = subst Fits (as_read s) r.fitting in
      record {
        fields = fields_as L s;
        content = data_as L s;
        fitting = (h.0, (h.1.0, (h.1.1.0, (h.1.1.1.0, (h.1.1.1.1.0, (h.1.1.1.1.1.0, (lit< tt, tt)))))));
        short = omega (arith, r.size, v.form.short);
        bytes = r.bytes;
        id = v.id;
        same =
            r.same ∙ ap (λ (fs : List (ℕ × ℕ)). record_of L fs (data_as L s)) (as_read s)
            ∙ ap (λ (k : ℕ). record_of L (numbers_as L (fields_as L s) k) (data_as L s)) (sym r.size);
      }

  pub only_records : (n : ℕ) (s : List ℕ) → Bytes s → (valid_as L n s ≡ true) ↔ Written L n s
  only_records n s b = (
    written n s b,
    λ r. ap₂ (valid_as L) (sym r.id) r.same ∙ (read_back r.fields r.content r.fitting r.short r.bytes).valid,
  )
