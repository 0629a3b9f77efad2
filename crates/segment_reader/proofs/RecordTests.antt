-- What `is_record` says, test by test. Document 02, No. 3: "a record cut short, misnumbered, too long or failing a check"; "The checks are CRC-32 of the
-- data and of the record before its check."
--
--   is-record   bytes begin with record n exactly if their length field is within the limit, their ID is n, the record is whole and both checks agree
--   is-sized    "(until a length field is above 28 or not wholly in the slice)"
-- Assumes nothing.
use mathlib.Core.Path.{◌≡◌, sym, ap, ◌∙◌}
use mathlib.Core.Logic.{◌↔◌}
use mathlib.Core.Bool.{true, ◌&&◌, and-eq-true_iff}
use mathlib.Core.List.{List}
use Prim.Native.Nat.{ℕ, ◌+◌, ◌-◌, ◌≤◌}
use native.Mathlib.Nat.{le_refl}
use native.Mathlib.Omega.{arith}
use lib.Dec.{eqb, leb}
use lib.ListN.{length, take, length-take}
use lib.Seq.{take-take}
use borrow.Author.Tests.{eq-eqb, le-leb, eqb-true, leb-true}
use Rattle.octets.specs.Octets.{part, be_of, all_zero}
use Rattle.octets.proofs.Laws.{part_part}
use Rattle.crc32.specs.Crc32.{crc_of, checked}
use Rattle.storage.specs.Layout.{check_size, data_offset, check_offset, formed}
use Rattle.storage.specs.Sizes.{place_layout, data_limit}
use Rattle.storage.specs.Places.{id_of, size_of}
use Rattle.storage.proofs.Layouts as layout
use Rattle.segment.specs.Records.{record_layout, record_size, check_in, content_in, sized, is_record, content_offset}

-- ================ the statements

-- the bytes of a record before its check
abbrev pub before_check : List ℕ → ℕ
before_check s = check_offset (record_layout (size_of s))

pub record IsRecord (n : ℕ) (s : List ℕ) : Type 0 where
  pub short : size_of s ≤ data_limit  -- not "too long"
  pub id : id_of s ≡ n  -- not "misnumbered"
  pub whole : record_size s ≤ length s  -- not "cut short"
  pub data_check : check_in s ≡ crc_of (content_in s)  -- "CRC-32 of the data"
  pub record_check : be_of (part (before_check s) check_size s) ≡ crc_of (take (before_check s) s)  -- "and of the record before its check"

abbrev pub Meant : Type 0
Meant = (n : ℕ) (s : List ℕ) → (is_record n s ≡ true) ↔ IsRecord n s

pub record IsSized (s : List ℕ) : Type 0 where
  pub inside : data_offset place_layout ≤ length s  -- the length field, the last of a place's numbers, is wholly in the slice
  pub short : size_of s ≤ data_limit  -- and not above 28

abbrev pub MeantSized : Type 0
MeantSized = (s : List ℕ) → (sized s ≡ true) ↔ IsSized s

-- ================ the proofs

-- parts of the front are those of the whole
pub front_part : (o n k : ℕ) (s : List ℕ) → o + n ≤ k → part o n (take k s) ≡ part o n s
front_part o n k s h = let q : 0 + o ≡ o = omega arith in part_part 0 k o n s h ∙ ap (λ (i : ℕ). part i n s) q

-- no zeros stand behind the data of a record
no_tail : (k : ℕ) (s : List ℕ) → all_zero (part (content_offset + k) (k + 0 - k) s) ≡ true
unfolding all_zero
no_tail k s = let q : k + 0 - k ≡ 0 = omega arith in ap (λ (i : ℕ). all_zero (part (content_offset + k) i s)) q

module _ (s : List ℕ) where
  -- the front of s, as long as the record should be
  abbrev front : List ℕ
  front = take (record_size s) s

  -- the record's own check, read in the front and in s
  same_check : (crc_of (take (before_check s) front) ≡ crc_of (take (before_check s) s)) × (be_of (part (before_check s) 4 front) ≡ be_of (part (before_check s) 4 s))
  unfolding record_size
  same_check = (
    ap crc_of (take-take (before_check s) (record_size s) s (omega arith)),
    ap be_of (front_part (before_check s) 4 (record_size s) s (le_refl (record_size s))),
  )

  -- a front that has its length holds a record if the check agrees
  pub formed_tests : formed (record_layout (size_of s)) (size_of s) front ≡ true
      → (record_size s ≤ length s) × (be_of (part (before_check s) check_size s) ≡ crc_of (take (before_check s) s))
  unfolding record_size checked
  formed_tests h =
      let t = layout.tests (record_layout (size_of s)) (size_of s) front h in
      let c = eqb-true (crc_of (take (before_check s) front)) (be_of (part (before_check s) 4 front)) t.check in
      let l : length front ≡ record_size s = t.size in
      (omega (arith, l, length-take (record_size s) s), sym same_check.1 ∙ sym c ∙ same_check.0)

  tests_formed : record_size s ≤ length s → be_of (part (before_check s) check_size s) ≡ crc_of (take (before_check s) s)
      → formed (record_layout (size_of s)) (size_of s) front ≡ true
  unfolding record_size checked
  tests_formed h c =
      let l : length front ≡ record_size s = length-take (record_size s) s ∙ omega arith in
      layout.by_check (record_layout (size_of s)) (size_of s) front l (le_refl (size_of s)) (no_tail (size_of s) front)
      ∙ eq-eqb (crc_of (take (before_check s) front)) (be_of (part (before_check s) 4 front)) (same_check.0 ∙ sym c ∙ sym same_check.1)

pub is_record_lem : Meant
unfolding is_record
is_record_lem n s = (to, from)
  where
    to : is_record n s ≡ true → IsRecord n s
    to h =
        let a = leb (size_of s) data_limit in
        let b = eqb (id_of s) n in
        let c = formed (record_layout (size_of s)) (size_of s) (take (record_size s) s) in
        let d = eqb (check_in s) (crc_of (content_in s)) in
        let h₃ = (and-eq-true_iff (a && b && c) d).0 h in
        let h₂ = (and-eq-true_iff (a && b) c).0 h₃.0 in
        let h₁ = (and-eq-true_iff a b).0 h₂.0 in
        let t = formed_tests s h₂.1 in
        record {
          short = leb-true (size_of s) data_limit h₁.0;
          id = eqb-true (id_of s) n h₁.1;
          whole = t.0;
          data_check = eqb-true (check_in s) (crc_of (content_in s)) h₃.1;
          record_check = t.1;
        }

    from : IsRecord n s → is_record n s ≡ true
    from r =
        rw (
          le-leb (size_of s) data_limit r.short,
          eq-eqb (id_of s) n r.id,
          tests_formed s r.whole r.record_check,
          eq-eqb (check_in s) (crc_of (content_in s)) r.data_check,
        )

pub is_sized : MeantSized
unfolding sized
is_sized s = (
  λ h.
      let b = (and-eq-true_iff (leb (data_offset place_layout) (length s)) (leb (size_of s) data_limit)).0 h in
      record { inside = leb-true (data_offset place_layout) (length s) b.0; short = leb-true (size_of s) data_limit b.1 },
  λ r. rw (le-leb (data_offset place_layout) (length s) r.inside, le-leb (size_of s) data_limit r.short),
)
