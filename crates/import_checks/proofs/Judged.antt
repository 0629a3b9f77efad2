-- The conditions of 1 and 24 as plain facts: what they say when they fail, and when they hold which of their parts does.
-- Assumes nothing.
use mathlib.Core.Path.{◌≡◌, refl, sym, ap, ap₂, ◌∙◌}
use mathlib.Core.Logic.{◌↔◌, ◌⊎◌, inl, inr, ⊎_elim}
use mathlib.Core.Bool.{Bool, true, false, not, ◌&&◌, ◌||◌, and-eq-true_iff, false≢true}
use mathlib.Core.List.{List, [], ◌∷◌}
use Prim.Native.Nat.{ℕ, ◌≤◌, ◌<◌}
use native.Mathlib.Omega.{arith}
use lib.Dec.{eqb, leb, ltb}
use lib.ListN.{length, take, drop}
use borrow.Author.Tests.{eqb-true, eqb-false, eq-eqb, leb-true, le-leb, ltb-true, ltb-false, le-ltb, not-true, not-false}
use Rattle.octets.specs.Octets.{all_zero}
use Rattle.storage.specs.Sizes.{slots_size, places_limit, medium_size}
use Rattle.storage.specs.Places.{wiped}
use Rattle.storage.specs.Log.{place_at}
use Rattle.segment.specs.declared.header.Stamp.{Stamp}
use Rattle.segment.specs.Header.{header_size, header_bytes}
use Rattle.segment.specs.Pair.{Files, index_size}
use Rattle.import_checks.specs.Refusals.{offsets_in, outside, same_bytes, other_header, unready}
use Rattle.base.proofs.Tests.{either, neither}
use Rattle.storage.proofs.Filled.{all_wiped}
use Rattle.import_checks.proofs.Wiped.{some_written}

-- ================ tests and what they say

-- a test that cannot fail is passed
pub by_false : (b : Bool) → (b ≡ false → ⊥) → b ≡ true
by_false true h = refl
by_false false h = absurd (h refl)

-- ================ refusal 1

-- an index file of k offsets has room for k
pub offsets_of_lem : (k size : ℕ) → size ≡ index_size k → offsets_in size ≡ k
unfolding offsets_in
offsets_of_lem k size e = omega arith

pub record Inside (N medium index : ℕ) : Type 0 where
  pub some : 1 ≤ N
  pub most : N ≤ places_limit
  pub places : medium ≡ medium_size N
  pub offsets : index ≡ index_size (offsets_in index)

pub inside_iff : (N medium index : ℕ) → (outside N medium index ≡ false) ↔ Inside N medium index
unfolding outside
inside_iff N medium index = (to, from)
  where
    to : outside N medium index ≡ false → Inside N medium index
    to h =
        let a = leb 1 N in
        let b = leb N places_limit in
        let c = eqb medium (medium_size N) in
        let d = eqb index (index_size (offsets_in index)) in
        let h₂ = neither (not (a && b) || not c) (not d) h in
        let h₁ = neither (not (a && b)) (not c) h₂.0 in
        let ab = (and-eq-true_iff a b).0 (not-false (a && b) h₁.0) in
        record {
          some = leb-true 1 N ab.0;
          most = leb-true N places_limit ab.1;
          places = eqb-true medium (medium_size N) (not-false c h₁.1);
          offsets = eqb-true index (index_size (offsets_in index)) (not-false d h₂.1);
        }

    from : Inside N medium index → outside N medium index ≡ false
    from r =
        rw (
          le-leb 1 N r.some,
          le-leb N places_limit r.most,
          eq-eqb medium (medium_size N) r.places,
          eq-eqb index (index_size (offsets_in index)) r.offsets,
        )

-- refusal 1, from what is outside
pub outside_iff : (N medium index : ℕ)
    → (outside N medium index ≡ true) ↔ (¬ ((1 ≤ N) × (N ≤ places_limit))) ⊎ (¬ (medium ≡ medium_size N)) ⊎ (¬ ((k : ℕ) × (index ≡ index_size k)))
unfolding outside
outside_iff N medium index = (
  λ h.
      let a = leb 1 N in
      let b = leb N places_limit in
      let c = eqb medium (medium_size N) in
      let d = eqb index (index_size (offsets_in index)) in
      ⊎_elim
      (λ h₁. ⊎_elim
      (λ e. inl (λ w. false≢true (sym (not-true (a && b) e) ∙ (and-eq-true_iff a b).1 (le-leb 1 N w.0, le-leb N places_limit w.1))))
      (λ e. inr (inl (eqb-false medium (medium_size N) (not-true c e))))
      (either (not (a && b)) (not c) h₁))
      (λ e. inr (inr (λ w. eqb-false index (index_size (offsets_in index)) (not-true d e) (w.1 ∙ ap index_size (sym (offsets_of_lem w.0 index w.1))))))
      (either (not (a && b) || not c) (not d) h),
  λ w.
      by_false (outside N medium index)
      (λ h.
      let r = (inside_iff N medium index).0 h in
      ⊎_elim (λ f. f (r.some, r.most)) (⊎_elim (λ f. f r.places) (λ f. f (offsets_in index, r.offsets))) w),
)

-- ================ 24

pub same_same : (s : List ℕ) → same_bytes s s ≡ true
unfolding same_bytes
same_same [] = refl
same_same (b ∷ s) = rw (eq-eqb b b refl) (same_same s)

pub same_bytes_lem : (s t : List ℕ) → same_bytes s t ≡ true → s ≡ t
unfolding same_bytes
same_bytes_lem [] [] h = refl
same_bytes_lem [] (b ∷ t) h = absurd (false≢true h)
same_bytes_lem (a ∷ s) [] h = absurd (false≢true h)
same_bytes_lem (a ∷ s) (b ∷ t) h =
    let e = (and-eq-true_iff (eqb a b) (same_bytes s t)).0 h in
    ap₂ (λ (x : ℕ) (l : List ℕ). x ∷ l) (eqb-true a b e.0) (same_bytes_lem s t e.1)

pub header_iff : (z : Stamp) (file : List ℕ) → (other_header z file ≡ false) ↔ (take header_size file ≡ header_bytes z)
unfolding other_header
header_iff z file = (
  λ h. same_bytes_lem (take header_size file) (header_bytes z) (not-false (same_bytes (take header_size file) (header_bytes z)) h),
  λ e. ap (λ (s : List ℕ). not (same_bytes s (header_bytes z))) e ∙ ap not (same_same (header_bytes z)),
)

pub record Ready (N : ℕ) (m : List ℕ) (z : Stamp) (files : Files) : Type 0 where
  pub data_header : take header_size files.data_file ≡ header_bytes z
  pub index_header : take header_size files.index_file ≡ header_bytes z
  pub wiped : all_zero (drop slots_size m) ≡ true
  pub room : offsets_in (length files.index_file) ≤ N

pub ready_iff : (N : ℕ) (m : List ℕ) (z : Stamp) (files : Files) → (unready N m z files ≡ false) ↔ Ready N m z files
unfolding unready
ready_iff N m z files = (to, from)
  where
    to : unready N m z files ≡ false → Ready N m z files
    to h =
        let a = other_header z files.data_file in
        let b = other_header z files.index_file in
        let c = all_zero (drop slots_size m) in
        let k = offsets_in (length files.index_file) in
        let h₃ = neither (a || b || not c) (ltb N k) h in
        let h₂ = neither (a || b) (not c) h₃.0 in
        let h₁ = neither a b h₂.0 in
        record {
          data_header = (header_iff z files.data_file).0 h₁.0;
          index_header = (header_iff z files.index_file).0 h₁.1;
          wiped = not-false c h₂.1;
          room = ltb-false N k h₃.1;
        }

    from : Ready N m z files → unready N m z files ≡ false
    from r =
        let k = offsets_in (length files.index_file) in
        rw ((header_iff z files.data_file).1 r.data_header, (header_iff z files.index_file).1 r.index_header, r.wiped, le-ltb N k r.room)

-- 24, from what is not ready
pub unready_iff : (N : ℕ) (m : List ℕ) (z : Stamp) (files : Files) → length m ≡ medium_size N
    → (unready N m z files ≡ true) ↔ (¬ (take header_size files.data_file ≡ header_bytes z)) ⊎ (¬ (take header_size files.index_file ≡ header_bytes z))
    ⊎ ((n : ℕ) × (1 ≤ n) × (n ≤ N) × (¬ (place_at n m ≡ wiped))) ⊎ (N < offsets_in (length files.index_file))
unfolding unready
unready_iff N m z files l = (
  λ h.
      let a = other_header z files.data_file in
      let b = other_header z files.index_file in
      let c = all_zero (drop slots_size m) in
      let k = offsets_in (length files.index_file) in
      ⊎_elim
      (λ h₁. ⊎_elim
      (λ h₂. ⊎_elim
      (λ e. inl (λ w. false≢true (sym ((header_iff z files.data_file).1 w) ∙ e)))
      (λ e. inr (inl (λ w. false≢true (sym ((header_iff z files.index_file).1 w) ∙ e))))
      (either a b h₂))
      (λ e. inr (inr (inl (some_written N m l (not-true c e)))))
      (either (a || b) (not c) h₁))
      (λ e. inr (inr (inr (ltb-true N k e))))
      (either (a || b || not c) (ltb N k) h),
  λ w.
      by_false (unready N m z files)
      (λ h.
      let r = (ready_iff N m z files).0 h in
      ⊎_elim (λ f. f r.data_header)
      (⊎_elim (λ f. f r.index_header)
      (⊎_elim (λ f. f.3 (all_wiped N m l r.wiped f.0 f.1 f.2)) (λ f. omega (arith, f, r.room)))) w),
)
