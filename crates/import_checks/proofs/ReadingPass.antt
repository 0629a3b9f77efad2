-- Offsets and records in one pass: what is left to be judged, and whether a record before it has failed. 25 goes before 26 over the whole pair, so that a
-- record that fails is only kept in mind.
-- Assumes nothing.
use mathlib.Core.Path.{◌≡◌, refl, sym, ap, ap₂, ◌∙◌}
use mathlib.Core.Bool.{Bool, true, false, not, cond, ◌||◌, false≢true}
use mathlib.Core.List.{List}
use Prim.Native.Nat.{ℕ, suc, ◌+◌, ◌-◌, ◌<◌, ◌≤◌}
use native.Mathlib.Omega.{arith}
use lib.Dec.{eqb, leb}
use lib.ListN.{length, take, drop, length-drop}
use lib.Seq.{drop-drop}
use borrow.Author.Tests.{leb-true, leb-false, eq-eqb, ne_eqb}
use Rattle.std.specs.Prelude.{Some, None}
use Rattle.octets.specs.Octets.{be_of}
use Rattle.octets.proofs.Laws.{between_part}
use Rattle.storage.specs.Sizes.{data_limit}
use Rattle.storage.specs.Places.{size_of}
use Rattle.segment.specs.Pair.{offset_size}
use Rattle.segment.specs.Records.{record_size, longest_record, sized, is_record, numbers_size}
use Rattle.import_checks.specs.Refusals.{Reply, ok, no, offsets_differ, records_unfit}
use Rattle.segment.proofs.Writing.{size_is}
use Rattle.segment_reader.proofs.RecordTests.{is_sized}
use Rattle.segment_reader.proofs.ReadingRecords.{cut_short}

-- what is said of k offsets and records that are left, b: a record before them has failed
unfoldable pub judged : Bool → ℕ → ℕ → List ℕ → ℕ → List ℕ → Reply
judged b n k is o s = cond (offsets_differ k is o s) (no 25) (cond (b || records_unfit n k s) (no 26) ok)

-- a record without a size is none
unsized : (n : ℕ) (s : List ℕ) → sized s ≡ false → is_record n s ≡ false
unfolding is_record
unsized n s e = go (leb (size_of s) data_limit) refl
  where
    short : size_of s ≤ data_limit → length s < record_size s
    short h = go' (leb numbers_size (length s)) refl
      where
        go' : (b : Bool) → leb numbers_size (length s) ≡ b → length s < record_size s
        go' true w = absurd (false≢true (sym e ∙ (is_sized s).1 (record { inside = leb-true numbers_size (length s) w; short = h })))
        go' false w = omega (arith, size_is s, leb-false numbers_size (length s) w)

    go : (b : Bool) → leb (size_of s) data_limit ≡ b → is_record n s ≡ false
    go true w = let h = leb-true (size_of s) data_limit w in sym (cut_short n s h (short h))
    go false w = rw w

module _ (b : Bool) (n k : ℕ) (is : List ℕ) (o : ℕ) (s : List ℕ) where
  pub other_offset : (be_of (take offset_size is) ≡ o → ⊥) → judged b n (suc k) is o s ≡ no 25
  unfolding judged offsets_differ
  other_offset e = rw (ne_eqb (be_of (take offset_size is)) o e)

  module _ (e : be_of (take offset_size is) ≡ o) where
    pub no_size : sized s ≡ false → judged b n (suc k) is o s ≡ no 26
    unfolding judged offsets_differ records_unfit
    no_size z = rw (eq-eqb (be_of (take offset_size is)) o e, z, unsized n s z) (go b)
      where
        go : (q : Bool) → cond (q || true) (no 26) ok ≡ no 26
        go true = refl
        go false = refl

    pub one_more : sized s ≡ true
        → judged b n (suc k) is o s ≡ judged (b || not (is_record n s)) (n + 1) k (drop offset_size is) (o + record_size s) (drop (record_size s) s)
    unfolding judged offsets_differ records_unfit
    one_more z =
        rw (eq-eqb (be_of (take offset_size is)) o e, z)
        (ap (λ (q : Bool). cond (offsets_differ k (drop offset_size is) (o + record_size s) (drop (record_size s) s)) (no 25) (cond q (no 26) ok)) (go b))
      where
        go : (q : Bool) → (q || (not (is_record n s) || records_unfit (n + 1) k (drop (record_size s) s))) ≡ ((q || not (is_record n s)) || records_unfit (n + 1) k (drop (record_size s) s))
        go true = refl
        go false = refl

-- ---- the same, at the offsets that the code keeps

-- what `size_at` answers
pub size_none : (s : List ℕ) → None ≡ cond (sized s) (Some (record_size s)) None → sized s ≡ false
size_none s e = go (sized s) refl
  where
    go : (b : Bool) → sized s ≡ b → b ≡ false
    go true w = let q = rw w at e in absurd (cc)
    go false w = refl

pub size_some : (r : ℕ) (s : List ℕ) → Some r ≡ cond (sized s) (Some (record_size s)) None → (sized s ≡ true) × (r ≡ record_size s)
size_some r s e = go (sized s) refl
  where
    go : (b : Bool) → sized s ≡ b → (b ≡ true) × (r ≡ record_size s)
    go true w = let q = rw w at e in (refl, cc)
    go false w = let q = rw w at e in absurd (cc)

module _ (b : Bool) (n at i count : ℕ) (index file : List ℕ) where
  -- the part of the index that is read
  offset_is : be_of (take (i + offset_size - i) (drop i index)) ≡ be_of (take offset_size (drop i index))
  offset_is = ap be_of (between_part i offset_size index)

  left : n < count → count - n ≡ suc (count - (n + 1))
  left h = omega arith

  abbrev pub now_judged : Reply
  now_judged = judged b (n + 1) (count - n) (drop i index) at (drop at file)

  pub turn_other : n < count → (be_of (take (i + offset_size - i) (drop i index)) ≡ at → ⊥) → now_judged ≡ no 25
  turn_other h e =
      ap (λ (k : ℕ). judged b (n + 1) k (drop i index) at (drop at file)) (left h)
      ∙ other_offset b (n + 1) (count - (n + 1)) (drop i index) at (drop at file) (λ q. e (offset_is ∙ q))

  pub turn_unsized : n < count → be_of (take (i + offset_size - i) (drop i index)) ≡ at → sized (drop at file) ≡ false → now_judged ≡ no 26
  turn_unsized h e z =
      ap (λ (k : ℕ). judged b (n + 1) k (drop i index) at (drop at file)) (left h)
      ∙ no_size b (n + 1) (count - (n + 1)) (drop i index) at (drop at file) (sym offset_is ∙ e) z

  pub turn_next : (r : ℕ) (b' : Bool) → n < count → be_of (take (i + offset_size - i) (drop i index)) ≡ at → sized (drop at file) ≡ true → r ≡ record_size (drop at file)
      → b' ≡ (b || not (is_record (n + 1) (drop at file)))
      → now_judged ≡ judged b' (n + 1 + 1) (count - (n + 1)) (drop (i + offset_size) index) (at + r) (drop (at + r) file)
  turn_next r b' h e z q w =
      let s = drop at file in
      ap (λ (k : ℕ). judged b (n + 1) k (drop i index) at s) (left h)
      ∙ one_more b (n + 1) (count - (n + 1)) (drop i index) at s (sym offset_is ∙ e) z
      ∙ ap₂ (λ (l t : List ℕ). judged (b || not (is_record (n + 1) s)) (n + 1 + 1) (count - (n + 1)) l (at + record_size s) t) (drop-drop offset_size i index) (drop-drop (record_size s) at file)
      ∙ ap₂ (λ (p : Bool) (j : ℕ). judged p (n + 1 + 1) (count - (n + 1)) (drop (i + offset_size) index) (at + j) (drop (at + j) file)) (sym w) (sym q)

  -- the record is read at its offset, and the next one begins not far behind the file's end
  pub within : sized (drop at file) ≡ true → (numbers_size ≤ length (drop at file)) × (size_of (drop at file) ≤ data_limit) × (at + record_size (drop at file) ≤ length file + longest_record)
  within z =
      let s = (is_sized (drop at file)).0 z in
      (s.inside, s.short, omega (arith, s.inside, s.short, size_is (drop at file), length-drop at file))

  -- bytes after the last
  pub turn_end : (q : Bool) → count ≤ n → q ≡ (b || not (leb (length file) at)) → now_judged ≡ cond q (no 26) ok
  unfolding judged offsets_differ records_unfit
  turn_end q h e =
      let z : count - n ≡ 0 = omega arith in
      ap (λ (k : ℕ). judged b (n + 1) k (drop i index) at (drop at file)) z
      ∙ ap (λ (p : Bool). cond p (no 26) ok) (ap (λ (p : Bool). b || not p) rest ∙ sym e)
    where
      rest : eqb (length (drop at file)) 0 ≡ leb (length file) at
      rest = go (leb (length file) at) refl
        where
          go : (p : Bool) → leb (length file) at ≡ p → eqb (length (drop at file)) 0 ≡ p
          go true w = eq-eqb (length (drop at file)) 0 (omega (arith, length-drop at file, leb-true (length file) at w))
          go false w = ne_eqb (length (drop at file)) 0 (λ x. omega (arith, x, length-drop at file, leb-false (length file) at w))
