-- Records and offsets of a list of places. Written for places valid from place n on they pass import's tests and are read as these places; and what passes
-- the tests is what is written for the places that it is read as.
-- Assumes nothing.
use mathlib.Core.Path.{◌≡◌, refl, sym, ap, ap₂, ◌∙◌}
use mathlib.Core.Bool.{Bool, true, false, not, ◌&&◌}
use mathlib.Core.List.{List, [], ◌∷◌, ◌++◌}
use Prim.Native.Nat.{ℕ, zero, suc, ◌+◌, ◌*◌, ◌^◌, ◌≤◌, ◌<◌}
use native.Mathlib.Omega.{arith}
use lib.Dec.{eqb}
use lib.ListN.{length, take, drop, length-take, length-drop, take-append-drop}
use lib.Seq.{take_at, drop_at}
use borrow.Author.Tests.{eq-eqb, eqb-true, not-false}
use Rattle.base.proofs.Tests.{neither}
use Rattle.octets.specs.Octets.{be_of, be_bytes, Bytes}
use Rattle.octets.proofs.Laws.{length_be}
use Rattle.octets.proofs.Numbers.{be_back, bytes_back}
use Rattle.octets.proofs.Bytes.{bytes_take, bytes_drop}
use Rattle.storage.proofs.PlaceCases.{valid_tests}
use Rattle.storage.proofs.Filled.{AllValid, AllLong}
use Rattle.segment.specs.Records.{record_size, place_in, sized, is_record, longest_record}
use Rattle.segment.specs.Pair.{offset_size, records_of, offsets_from}
use Rattle.segment.proofs.Writing.{size_is}
use Rattle.import_checks.specs.Refusals.{offsets_differ, records_unfit}
use Rattle.segment_reader.proofs.RecordTests.{is_record_lem, is_sized}
use Rattle.segment_import.proofs.RecordBack.{place_long, back, forth}

-- the places that k records at the front of s are read as
unfoldable pub places_in : ℕ → List ℕ → List (List ℕ)
places_in zero s = []
places_in (suc k) s = place_in s ∷ places_in k (drop (record_size s) s)

abbrev pub AllBytes : List (List ℕ) → Type 0
AllBytes [] = Unit {0}
AllBytes (p ∷ ps) = Bytes p × AllBytes ps

-- ================ written, then read

pub records_fit : (n : ℕ) (ps : List (List ℕ)) → AllValid n ps → AllBytes ps → records_unfit n (length ps) (records_of ps) ≡ false
unfolding records_unfit records_of
records_fit n [] v b = refl
records_fit n (p ∷ ps) v b =
    let r = back n p (records_of ps) b.0 v.0 in
    rw (r.valid, r.behind) (records_fit (n + 1) ps v.1 b.1)

pub places_back : (n : ℕ) (ps : List (List ℕ)) → AllValid n ps → AllBytes ps → places_in (length ps) (records_of ps) ≡ ps
unfolding places_in records_of
places_back n [] v b = refl
places_back n (p ∷ ps) v b =
    let r = back n p (records_of ps) b.0 v.0 in
    ap₂ (λ (q : List ℕ) (qs : List (List ℕ)). q ∷ qs) r.place (ap (places_in (length ps)) r.behind ∙ places_back (n + 1) ps v.1 b.1)

-- the first offset and those behind it
offset_first : (o : ℕ) (r : List ℕ) → o < 256 ^ 8 → be_of (take offset_size (be_bytes offset_size o ++ r)) ≡ o
offset_first o r h = ap be_of (take_at (be_bytes 8 o) r 8 (length_be 8 o)) ∙ be_back 8 o h

offset_behind : (o : ℕ) (r : List ℕ) → drop offset_size (be_bytes offset_size o ++ r) ≡ r
offset_behind o r = drop_at (be_bytes 8 o) r 8 (length_be 8 o)

-- a record is not long, so the offsets of a thousand are far below the numbers that 8 bytes hold
pub offsets_agree : (n o : ℕ) (ps : List (List ℕ)) → AllValid n ps → AllBytes ps → o + longest_record * length ps < 256 ^ 8
    → offsets_differ (length ps) (offsets_from o ps) o (records_of ps) ≡ false
unfolding offsets_differ offsets_from records_of
offsets_agree n o [] v b h = refl
offsets_agree n o (p ∷ ps) v b h =
    let r = back n p (records_of ps) b.0 v.0 in
    let is = offsets_from (o + record_size p) ps in
    let short : record_size p ≤ longest_record = omega (arith, size_is p, (valid_tests n p v.0).short) in
    rw (eq-eqb (be_of (take offset_size (be_bytes offset_size o ++ is))) o (offset_first o is (omega arith)), r.sized, r.behind, r.size, offset_behind o is)
    (offsets_agree (n + 1) (o + record_size p) ps v.1 b.1 (omega arith))

-- ================ read, then written

module _ (n k : ℕ) (s : List ℕ) (h : records_unfit n (suc k) s ≡ false) where
  -- the first record, and those behind it
  pub first_fits : is_record n s ≡ true
  unfolding records_unfit
  first_fits = not-false (is_record n s) (neither (not (is_record n s)) (records_unfit (n + 1) k (drop (record_size s) s)) h).0

  pub others_fit : records_unfit (n + 1) k (drop (record_size s) s) ≡ false
  unfolding records_unfit
  others_fit = (neither (not (is_record n s)) (records_unfit (n + 1) k (drop (record_size s) s)) h).1

pub nothing : (s : List ℕ) → length s ≡ 0 → [] ≡ s
nothing [] e = refl
nothing (x ∷ s) e = absurd (omega arith)

pub length_places_in : (k : ℕ) (s : List ℕ) → length (places_in k s) ≡ k
unfolding places_in
length_places_in zero s = refl
length_places_in (suc k) s = ap suc (length_places_in k (drop (record_size s) s))

pub places_long : (n k : ℕ) (s : List ℕ) → records_unfit n k s ≡ false → AllLong (places_in k s)
unfolding places_in
places_long n zero s h = tt
places_long n (suc k) s h = (place_long n s (first_fits n k s h), places_long (n + 1) k (drop (record_size s) s) (others_fit n k s h))

pub places_valid : (n k : ℕ) (s : List ℕ) → Bytes s → records_unfit n k s ≡ false → AllValid n (places_in k s)
unfolding places_in
places_valid n zero s b h = tt
places_valid n (suc k) s b h =
    ((forth n s b (first_fits n k s h)).valid, places_valid (n + 1) k (drop (record_size s) s) (bytes_drop (record_size s) s b) (others_fit n k s h))

pub records_again : (n k : ℕ) (s : List ℕ) → Bytes s → records_unfit n k s ≡ false → records_of (places_in k s) ≡ s
unfolding places_in records_of records_unfit
records_again n zero s b h = nothing s (eqb-true (length s) 0 (not-false (eqb (length s) 0) h))
records_again n (suc k) s b h =
    let rest = drop (record_size s) s in
    ap₂ (λ (x y : List ℕ). x ++ y) (forth n s b (first_fits n k s h)).written (records_again (n + 1) k rest (bytes_drop (record_size s) s b) (others_fit n k s h))
    ∙ take-append-drop (record_size s) s

-- a record has its length field
record_sized : (n : ℕ) (s : List ℕ) → is_record n s ≡ true → sized s ≡ true
record_sized n s v =
    let r = (is_record_lem n s).0 v in
    (is_sized s).1 (record { inside = omega (arith, r.whole, size_is s); short = r.short })

pub offsets_again : (n k o : ℕ) (is s : List ℕ) → Bytes is → length is ≡ offset_size * k → Bytes s → records_unfit n k s ≡ false
    → offsets_differ k is o s ≡ false → offsets_from o (places_in k s) ≡ is
unfolding places_in offsets_from offsets_differ
offsets_again n zero o is s bi l b h e = nothing is l
offsets_again n (suc k) o is s bi l b h e =
    let v = first_fits n k s h in
    let rest = drop (record_size s) s in
    let more = offsets_differ k (drop offset_size is) (o + record_size s) rest in
    let e₁ = neither (not (eqb (be_of (take offset_size is)) o)) (sized s && more) e in
    let first : be_of (take offset_size is) ≡ o = eqb-true (be_of (take offset_size is)) o (not-false (eqb (be_of (take offset_size is)) o) e₁.0) in
    let e₂ : more ≡ false = ap (λ (t : Bool). t && more) (sym (record_sized n s v)) ∙ e₁.1 in
    let l₁ : length (take offset_size is) ≡ 8 = length-take offset_size is ∙ omega arith in
    let l₂ : length (drop offset_size is) ≡ offset_size * k = length-drop offset_size is ∙ omega arith in
    let b₁ : be_bytes offset_size o ≡ take offset_size is =
    ap (be_bytes 8) (sym first) ∙ ap (λ (i : ℕ). be_bytes i (be_of (take offset_size is))) (sym l₁) ∙ bytes_back (take offset_size is) (bytes_take offset_size is bi) in
    let b₂ : offsets_from (o + record_size (place_in s)) (places_in k rest) ≡ drop offset_size is =
    ap (λ (i : ℕ). offsets_from (o + i) (places_in k rest)) (forth n s b v).size
    ∙ offsets_again (n + 1) k (o + record_size s) (drop offset_size is) rest (bytes_drop offset_size is bi) l₂ (bytes_drop (record_size s) s b)
    (others_fit n k s h) e₂ in
    ap₂ (λ (x y : List ℕ). x ++ y) b₁ b₂ ∙ take-append-drop offset_size is
