-- Import against document 02, No. 3: what it restores, what it may be exported as again, and exactly what it declines.
--
--   restores   "Importing an export restores all places exported": importing the pair written for the first k places of a medium into a medium of wiped
--              places with room for them is ok, its first k places are then those, byte for byte, its mark is k and all else of it is as it was
--   rewrites   "the places of an imported pair, written out by the same rule up to their mark, must give its own bytes"
--   declines   1, 24, 25 and 26 are given for what is said of them, "in that order over the whole pair and with the medium unchanged", no other number is
--              given, and ok writes only the records' places; 25 once more in the sentence's own words: proofs/Stepwise
-- Assumes nothing.
use mathlib.Core.Path.{◌≡◌, refl, sym, ap, ap₂, ◌∙◌, subst}
use mathlib.Core.Logic.{◌↔◌, ◌⊎◌, inl, inr, ⊎_elim}
use mathlib.Core.Bool.{true, false, not, ◌&&◌, and-eq-true_iff, or-true, false≢true}
use mathlib.Core.List.{List, [], ◌++◌}
use Prim.Native.Nat.{ℕ, zero, suc, ◌+◌, ◌-◌, ◌*◌, ◌≤◌, ◌<◌}
use native.Mathlib.Omega.{arith}
use lib.Dec.{eqb}
use lib.ListN.{length, take, drop, get_or, length-drop, take-append-drop}
use lib.Seq.{drop-drop}
use borrow.Author.Tests.{eqb-true, eqb-false, ne_eqb, not-true, not-false}
use Rattle.octets.specs.Octets.{part, be_of, Bytes}
use Rattle.octets.proofs.Bytes.{bytes_drop}
use Rattle.storage.specs.Sizes.{slots_size, places_limit, medium_size}
use Rattle.storage.specs.Places.{wiped}
use Rattle.storage.specs.Log.{place_at, places_from, mark_of}
use Rattle.storage.proofs.Blocks.{get_d_places}
use Rattle.segment.specs.declared.header.Stamp.{Stamp}
use Rattle.segment.specs.Header.{header_size, key_size, header_bytes}
use Rattle.segment.specs.Records.{record_size, place_in, sized, is_record}
use Rattle.segment.specs.Pair.{Files, offset_size, records_of, offsets_from, pair_of, index_size}
use Rattle.import_checks.specs.Refusals.{ok, no, outside, unready, offsets_differ, records_unfit, offsets_in, verdict}
use Rattle.segment_import.specs.Import.{filled, imported}
use Rattle.storage.proofs.Filled.{AllValid, valid_long}
use Rattle.segment_import.proofs.Places.{places_in, nothing, first_fits, others_fit}
use Rattle.segment_import.proofs.Places.{places_long, places_valid, records_again, offsets_again}
use Rattle.import_checks.proofs.Wiped.{all_zero_lem}
use Rattle.segment_import.proofs.Medium.{Filled, filled_is}
use Rattle.segment_import.proofs.Exported.{all_valid, heads, tails, index_size_lem, offsets, agree, fit, places_again}
use Rattle.base.proofs.Tests.{either}
use Rattle.import_checks.proofs.Judged.{by_false, outside_iff, inside_iff, unready_iff}
use Rattle.segment_import.proofs.Replies.{Replies, Passed, differs, unfits, verdict_is, replies, passed_iff, imported_ok, imported_no}

-- ================ the statements

-- how many offsets a pair has, and its records
abbrev pub offsets_of : Files → ℕ
offsets_of files = offsets_in (length files.index_file)

abbrev pub records_in : Files → List ℕ
records_in files = drop header_size files.data_file

-- ---- what is restored

-- r is what the import of the pair f makes of the medium m' of N' places: places 1 to k are those of m
pub record Restored (k : ℕ) (m : List ℕ) (N' : ℕ) (m' : List ℕ) (z : Stamp) (f : Files) (r : List ℕ) : Type 0 where
  pub says_ok : verdict N' m' z f ≡ ok
  pub places : (n : ℕ) → 1 ≤ n → n ≤ k → place_at n r ≡ place_at n m
  pub slots : take slots_size r ≡ take slots_size m'
  pub behind : drop (medium_size k) r ≡ drop (medium_size k) m'
  pub mark : mark_of N' r ≡ k

-- the first k places of a medium's log, written out with a time and a key, and imported with the same into a medium of N' places, all wiped
abbrev pub Restores : Type 0
Restores =
    (N k : ℕ) (m : List ℕ) (z : Stamp) (N' : ℕ) (m' : List ℕ) → Bytes m → length z.key ≡ key_size → k ≤ mark_of N m
    → 1 ≤ N' → N' ≤ places_limit → length m' ≡ medium_size N' → ((n : ℕ) → 1 ≤ n → n ≤ N' → place_at n m' ≡ wiped) → k ≤ N'
    → let f = pair_of z (places_from k 1 m) in Restored k m N' m' z f (imported N' m' z f)

-- a pair that is imported: the mark is the number of its offsets, and the places up to it, written out with the same time and key, are the pair
abbrev pub Rewrites : Type 0
Rewrites =
    (N : ℕ) (m : List ℕ) (z : Stamp) (files : Files) → Bytes files.data_file → Bytes files.index_file → verdict N m z files ≡ ok
    → let r = imported N m z files in
    (mark_of N r ≡ offsets_of files) × (pair_of z (places_from (mark_of N r) 1 r) ≡ files)

-- ---- what is declined, in words

-- the j-th offset of an index file, from 0
abbrev pub offset_at : ℕ → List ℕ → ℕ
offset_at j index = be_of (part (header_size + offset_size * j) offset_size index)

-- s from its j-th record on, from 0: each is as long as its length field says
unfoldable pub rest_at : ℕ → List ℕ → List ℕ
rest_at zero s = s
rest_at (suc j) s = rest_at j (drop (record_size s) s)

-- the offset at which that record begins, if s begins at offset o
unfoldable pub start_at : ℕ → ℕ → List ℕ → ℕ
start_at zero o s = o
start_at (suc j) o s = start_at j (o + record_size s) (drop (record_size s) s)

-- 1 "R or N is outside its values, or a lent slice has another length" (document 01), "(an import's index: 128 + 8 an offset; its data: any)"
abbrev pub Outside : ℕ → List ℕ → Files → Type 0
Outside N m files =
    (¬ ((1 ≤ N) × (N ≤ places_limit)))
    ⊎ (¬ (length m ≡ medium_size N))
    ⊎ (¬ ((k : ℕ) × (length files.index_file ≡ index_size k)))

-- 24 "a header other than export would write, a place not wiped or more offsets than N"
abbrev pub Unready : ℕ → List ℕ → Stamp → Files → Type 0
Unready N m z files =
    (¬ (take header_size files.data_file ≡ header_bytes z))
    ⊎ (¬ (take header_size files.index_file ≡ header_bytes z))
    ⊎ ((n : ℕ) × (1 ≤ n) × (n ≤ N) × (¬ (place_at n m ≡ wiped)))
    ⊎ (N < offsets_of files)

-- 25 "a first offset that isn't 128 or a later one that isn't the one before plus that record's size (until a length field is above 28 or not wholly in
-- the slice)": what `sized` says is RecordTests' `is_sized`. Here each offset is held against where its record begins; that this is the same as to hold it
-- against the one before, as the sentence does, is Stepwise's `stepwise`
abbrev pub Differs : Files → Type 0
Differs files =
    (j : ℕ) × (j < offsets_of files) × ((i : ℕ) → i < j → sized (rest_at i (records_in files)) ≡ true)
    × (¬ (offset_at j files.index_file ≡ start_at j header_size (records_in files)))

-- 26 "a record cut short, misnumbered, too long or failing a check, or bytes after the last": what `is_record` says is RecordTests' `is_record_lem`
abbrev pub Unfit : Files → Type 0
Unfit files =
    ((j : ℕ) × (j < offsets_of files) × (is_record (j + 1) (rest_at j (records_in files)) ≡ false))
    ⊎ (¬ (rest_at (offsets_of files) (records_in files) ≡ []))

pub record Exactly (N : ℕ) (m : List ℕ) (z : Stamp) (files : Files) : Type 0 where
  -- "Slices of other than the exact lengths .. meet refusal 1"
  pub one : (verdict N m z files ≡ no 1) ↔ Outside N m files
  -- "Import declines with 24 .., with 25 .. and with 26 .., in that order over the whole pair"
  pub header : (verdict N m z files ≡ no 24) ↔ ((¬ Outside N m files) × Unready N m z files)
  pub offset : (verdict N m z files ≡ no 25) ↔ ((¬ Outside N m files) × (¬ Unready N m z files) × Differs files)
  pub unfit : (verdict N m z files ≡ no 26) ↔ ((¬ Outside N m files) × (¬ Unready N m z files) × (¬ Differs files) × Unfit files)
  -- "a call with no named answer gives ok alone"
  pub accepted : (verdict N m z files ≡ ok) ↔ ((¬ Outside N m files) × (¬ Unready N m z files) × (¬ Differs files) × (¬ Unfit files))
  pub only : (n : ℕ) → verdict N m z files ≡ no n → (n ≡ 1) ⊎ (n ≡ 24) ⊎ (n ≡ 25) ⊎ (n ≡ 26)
  -- "and with the medium unchanged"
  pub unchanged : (n : ℕ) → verdict N m z files ≡ no n → imported N m z files ≡ m
  -- "writes only its records' places": the slots and all that lies behind these places stay
  pub places : verdict N m z files ≡ ok → (j : ℕ) → j < offsets_of files → place_at (j + 1) (imported N m z files) ≡ place_in (rest_at j (records_in files))
  pub slots : verdict N m z files ≡ ok → take slots_size (imported N m z files) ≡ take slots_size m
  pub behind : verdict N m z files ≡ ok → drop (medium_size (offsets_of files)) (imported N m z files) ≡ drop (medium_size (offsets_of files)) m
  pub size : verdict N m z files ≡ ok → length (imported N m z files) ≡ length m

abbrev pub Declines : Type 0
Declines = (N : ℕ) (m : List ℕ) (z : Stamp) (files : Files) → Exactly N m z files

-- ================ an import, written out again

-- the medium after an import that is ok
done : (N : ℕ) (m : List ℕ) (z : Stamp) (files : Files) → verdict N m z files ≡ ok
    → Filled N (offsets_of files) (records_in files) m (imported N m z files)
done N m z files e =
    let p = (passed_iff N m z files).0 e in
    let k = offsets_of files in
    let s = records_in files in
    let v = places_long 1 k s p.fit in
    subst (Filled N k s m) (sym (imported_ok N m z files e)) (filled_is N k s m p.inside.places p.ready.room v)

pub rewrites : Rewrites
unfolding pair_of
rewrites N m z files bd bi e =
    let p = (passed_iff N m z files).0 e in
    let file = files.data_file in
    let index = files.index_file in
    let k = offsets_of files in
    let s = records_in files in
    let is = drop header_size index in
    let ps = places_in k s in
    let bs = bytes_drop header_size file bd in
    let r = imported N m z files in
    let d = done N m z files e in
    let mark : mark_of N r ≡ k = d.mark (places_valid 1 k s bs p.fit) p.ready.wiped in
    let places : places_from (mark_of N r) 1 r ≡ ps = ap (λ (i : ℕ). places_from i 1 r) mark ∙ d.places in
    let li : length is ≡ offset_size * k = length-drop header_size index ∙ omega (arith, p.inside.offsets) in
    let file₁ : header_bytes z ++ records_of ps ≡ file =
    ap₂ (λ (x y : List ℕ). x ++ y) (sym p.ready.data_header) (records_again 1 k s bs p.fit) ∙ take-append-drop header_size file in
    let file₂ : header_bytes z ++ offsets_from header_size ps ≡ index =
    ap₂ (λ (x y : List ℕ). x ++ y) (sym p.ready.index_header) (offsets_again 1 k header_size is s (bytes_drop header_size index bi) li bs p.fit p.agree)
    ∙ take-append-drop header_size index in
    let pair : pair_of z ps ≡ files = λ i. record { data_file = file₁ i; index_file = file₂ i } in
    (mark, ap (pair_of z) places ∙ pair)

-- ================ an export, imported

pub restores : Restores
restores N k m z N' m' b key h lo hi size clean room =
    let zeros = all_zero_lem N' m' size clean in
    let f = pair_of z (places_from k 1 m) in
    let s = records_of (places_from k 1 m) in
    let r = imported N' m' z f in
    let count = offsets N k m z b key h in
    let passed : Passed N' m' z f =
    record {
      inside = record { some = lo; most = hi; places = size; offsets = index_size_lem N k m z b key h ∙ ap index_size (sym count) };
      ready = record { data_header = (heads N k m z b key h).0; index_header = (heads N k m z b key h).1; wiped = zeros; room = omega (arith, count) };
      agree = agree N k m z b key h (omega arith);
      fit = fit N k m z b key h;
    } in
    let says_ok = (passed_iff N' m' z f).1 passed in
    let again = places_again N k m z b key h in
    let valid : AllValid 1 (places_in k s) = subst (AllValid 1) (sym again) (all_valid N k m z b key h) in
    let e : r ≡ filled 1 k s m' = imported_ok N' m' z f says_ok ∙ ap₂ (λ (i : ℕ) (t : List ℕ). filled 1 i t m') count (tails N k m z b key h).0 in
    let d : Filled N' k s m' r = subst (Filled N' k s m') (sym e) (filled_is N' k s m' size room (valid_long 1 (places_in k s) valid)) in
    record {
      says_ok = says_ok;
      places = λ n o g.
          let q : 1 + (n - 1) ≡ n = omega arith in
          ap (λ (j : ℕ). place_at j r) (sym q) ∙ sym (get_d_places k 1 (n - 1) r (omega arith))
          ∙ ap (λ (ps : List (List ℕ)). get_or ps (n - 1) []) (d.places ∙ again)
          ∙ get_d_places k 1 (n - 1) m (omega arith) ∙ ap (λ (j : ℕ). place_at j m) q;
      slots = d.slots;
      behind = d.behind;
      mark = d.mark valid zeros;
    }

-- ================ 25 in words

-- what holds of the first record and of those behind it holds of all
sized_all : (j : ℕ) (s : List ℕ) → sized s ≡ true → ((i : ℕ) → i < j → sized (rest_at i (drop (record_size s) s)) ≡ true)
    → (i : ℕ) → i < suc j → sized (rest_at i s) ≡ true
unfolding rest_at
sized_all j s e f zero h = e
sized_all j s e f (suc i) h = f i (omega arith)

-- the offset behind the first
next_offset : (j : ℕ) (is : List ℕ) → part (offset_size * suc j) offset_size is ≡ part (offset_size * j) offset_size (drop offset_size is)
next_offset j is =
    let q : offset_size * suc j ≡ offset_size + offset_size * j = omega arith in
    ap (take offset_size) (ap (λ (i : ℕ). drop i is) q ∙ sym (drop-drop (offset_size * j) offset_size is))

-- k offsets `is` for the records s, of which the first should be o
abbrev DiffersAt : ℕ → List ℕ → ℕ → List ℕ → Type 0
DiffersAt k is o s =
    (j : ℕ) × (j < k) × ((i : ℕ) → i < j → sized (rest_at i s) ≡ true) × (¬ (be_of (part (offset_size * j) offset_size is) ≡ start_at j o s))

differs_to : (k o : ℕ) (is s : List ℕ) → offsets_differ k is o s ≡ true → DiffersAt k is o s
unfolding offsets_differ start_at
differs_to zero o is s h = absurd (false≢true h)
differs_to (suc k) o is s h =
    let first = be_of (take offset_size is) in
    let more = offsets_differ k (drop offset_size is) (o + record_size s) (drop (record_size s) s) in
    ⊎_elim
    (λ e. (0, omega arith, λ i g. absurd (omega arith), eqb-false first o (not-true (eqb first o) e)))
    (λ e.
    let b = (and-eq-true_iff (sized s) more).0 e in
    let r = differs_to k (o + record_size s) (drop offset_size is) (drop (record_size s) s) b.1 in
    (suc r.0, omega (arith, r.1), sized_all r.0 s b.0 r.2, λ w. r.3 (ap be_of (sym (next_offset r.0 is)) ∙ w)))
    (either (not (eqb first o)) (sized s && more) h)

differs_from : (k o : ℕ) (is s : List ℕ) (j : ℕ) → j < k → ((i : ℕ) → i < j → sized (rest_at i s) ≡ true)
    → (¬ (be_of (part (offset_size * j) offset_size is) ≡ start_at j o s)) → offsets_differ k is o s ≡ true
unfolding offsets_differ start_at rest_at
differs_from zero o is s j h f w = absurd (omega arith)
differs_from (suc k) o is s zero h f w = rw (ne_eqb (be_of (take offset_size is)) o w)
differs_from (suc k) o is s (suc j) h f w =
    let more = offsets_differ k (drop offset_size is) (o + record_size s) (drop (record_size s) s) in
    let e : more ≡ true =
    differs_from k (o + record_size s) (drop offset_size is) (drop (record_size s) s) j (omega arith) (λ i g. f (suc i) (omega arith))
    (λ v. w (ap be_of (next_offset j is) ∙ v)) in
    rw (f 0 (omega arith), e) (or-true (not (eqb (be_of (take offset_size is)) o)))

-- the j-th offset, behind the header
offset_at_lem : (j : ℕ) (index : List ℕ) → be_of (part (offset_size * j) offset_size (drop header_size index)) ≡ offset_at j index
offset_at_lem j index = ap (λ (l : List ℕ). be_of (take offset_size l)) (drop-drop (offset_size * j) header_size index)

differs_iff : (files : Files) → (differs files ≡ true) ↔ Differs files
differs_iff files =
    let k = offsets_of files in
    let index = files.index_file in
    let is = drop header_size index in
    let s = records_in files in (
      λ h. let r = differs_to k header_size is s h in (r.0, r.1, r.2, λ w. r.3 (offset_at_lem r.0 index ∙ w)),
      λ r. differs_from k header_size is s r.0 r.1 r.2 (λ w. r.3 (sym (offset_at_lem r.0 index) ∙ w)),
    )

-- ================ 26 in words

-- k records, of which the first is n, are all of s
abbrev UnfitAt : ℕ → ℕ → List ℕ → Type 0
UnfitAt n k s = ((j : ℕ) × (j < k) × (is_record (j + n) (rest_at j s) ≡ false)) ⊎ (¬ (rest_at k s ≡ []))

unfit_to : (n k : ℕ) (s : List ℕ) → records_unfit n k s ≡ true → UnfitAt n k s
unfolding records_unfit rest_at
unfit_to n zero s h = inr (λ e. eqb-false (length s) 0 (not-true (eqb (length s) 0) h) (ap length e))
unfit_to n (suc k) s h =
    let rest = drop (record_size s) s in
    let q : 0 + n ≡ n = omega arith in
    ⊎_elim
    (λ e. inl (0, omega arith, ap (λ (i : ℕ). is_record i s) q ∙ not-true (is_record n s) e))
    (λ e. ⊎_elim
    (λ r. inl (suc r.0, omega (arith, r.1), numbered r.0 rest r.2))
    (λ f. inr f)
    (unfit_to (n + 1) k rest e))
    (either (not (is_record n s)) (records_unfit (n + 1) k rest) h)
  where
    numbered : (j : ℕ) (rest : List ℕ) → is_record (j + (n + 1)) (rest_at j rest) ≡ false → is_record (suc j + n) (rest_at j rest) ≡ false
    numbered j rest e = let q : suc j + n ≡ j + (n + 1) = omega arith in ap (λ (i : ℕ). is_record i (rest_at j rest)) q ∙ e

-- records that fit: each is one, and nothing stands behind the last
fit_each : (n k : ℕ) (s : List ℕ) → records_unfit n k s ≡ false → (j : ℕ) → j < k → is_record (j + n) (rest_at j s) ≡ true
unfolding rest_at
fit_each n zero s h j g = absurd (omega arith)
fit_each n (suc k) s h zero g = let q : 0 + n ≡ n = omega arith in ap (λ (i : ℕ). is_record i s) q ∙ first_fits n k s h
fit_each n (suc k) s h (suc j) g =
    let rest = drop (record_size s) s in
    let q : suc j + n ≡ j + (n + 1) = omega arith in
    ap (λ (i : ℕ). is_record i (rest_at j rest)) q ∙ fit_each (n + 1) k rest (others_fit n k s h) j (omega arith)

fit_end : (n k : ℕ) (s : List ℕ) → records_unfit n k s ≡ false → rest_at k s ≡ []
unfolding rest_at records_unfit
fit_end n zero s h = sym (nothing s (eqb-true (length s) 0 (not-false (eqb (length s) 0) h)))
fit_end n (suc k) s h = fit_end (n + 1) k (drop (record_size s) s) (others_fit n k s h)

unfit_iff : (files : Files) → (unfits files ≡ true) ↔ Unfit files
unfit_iff files = (
  unfit_to 1 (offsets_of files) (records_in files),
  λ w.
      by_false (unfits files)
      (λ h.
      ⊎_elim
      (λ r. false≢true (sym r.2 ∙ fit_each 1 (offsets_of files) (records_in files) h r.0 r.1))
      (λ f. f (fit_end 1 (offsets_of files) (records_in files) h)) w),
)

-- ================ the numbers, and what ok writes

-- the j-th place read is the j-th record's
place_in_lem : (k j : ℕ) (s : List ℕ) → j < k → get_or (places_in k s) j [] ≡ place_in (rest_at j s)
unfolding places_in rest_at
place_in_lem zero j s h = absurd (omega arith)
place_in_lem (suc k) zero s h = refl
place_in_lem (suc k) (suc j) s h = place_in_lem k j (drop (record_size s) s) (omega arith)

pub declines : Declines
declines N m z files =
    let k = offsets_of files in
    let s = records_in files in
    let r = imported N m z files in
    let index = length files.index_file in
    let v : Replies (Outside N m files) (Unready N m z files) (Differs files) (Unfit files) (verdict N m z files) =
    subst (Replies (Outside N m files) (Unready N m z files) (Differs files) (Unfit files)) (sym (verdict_is N m z files))
    (replies (Outside N m files) (Unready N m z files) (Differs files) (Unfit files)
    (outside N (length m) index) (unready N m z files) (differs files) (unfits files)
    (outside_iff N (length m) index)
    (λ e. unready_iff N m z files ((inside_iff N (length m) index).0 e).places)
    (differs_iff files) (unfit_iff files)) in
    record {
      one = v.one;
      header = v.header;
      offset = v.offset;
      unfit = v.unfit;
      accepted = v.accepted;
      only = v.only;
      unchanged = imported_no N m z files;
      places = λ e j h.
          let q : j + 1 ≡ 1 + j = omega arith in
          ap (λ (i : ℕ). place_at i r) q ∙ sym (get_d_places k 1 j r h) ∙ ap (λ (ps : List (List ℕ)). get_or ps j []) (done N m z files e).places ∙ place_in_lem k j s h;
      slots = λ e. (done N m z files e).slots;
      behind = λ e. (done N m z files e).behind;
      size = λ e. (done N m z files e).size;
    }
