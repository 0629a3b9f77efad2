-- Refusal 24: equal bytes, and its cases in the order in which the code tries them.
-- Assumes nothing.
use mathlib.Core.Path.{◌≡◌, refl, sym, ap, ◌∙◌}
use mathlib.Core.Bool.{Bool, true, false}
use mathlib.Core.List.{List, ◌++◌}
use Prim.Native.Nat.{ℕ}
use lib.Dec.{eqb, ltb}
use lib.ListN.{length, take, drop}
use lib.Seq.{take-append_seam}
use Rattle.std.specs.List.{starts_with}
use Rattle.std.proofs.lemmas.List.{take-append-drop}
use Rattle.std.proofs.lemmas.Slice.Eq.{starts_is}
use Rattle.std.proofs.lemmas.Bool.Decides.{Decides-eqb}
use Rattle.octets.specs.Octets.{all_zero}
use Rattle.storage.specs.Sizes.{slots_size}
use Rattle.segment.specs.declared.header.Stamp.{Stamp}
use Rattle.segment.specs.Header.{header_size}
use Rattle.segment.specs.Pair.{Files}
use Rattle.import_checks.proofs.Judged.{same_same, same_bytes_lem}
use Rattle.import_checks.specs.Refusals.{offsets_in, same_bytes, other_header, unready}

-- ---- equal bytes

-- whoever answers as the kit's comparison does answers this
pub same_is : (r : Bool) (s t : List ℕ) → (r ≡ true → s ≡ t) → (s ≡ t → r ≡ true) → r ≡ same_bytes s t
same_is true s t f g = sym (ap (same_bytes s) (sym (f refl)) ∙ same_same s)
same_is false s t f g = go (same_bytes s t) refl
  where
    go : (q : Bool) → same_bytes s t ≡ q → false ≡ q
    go true w = g (same_bytes_lem s t w)
    go false w = refl

-- as the library's `starts_with` does
pub starts_same : (r : Bool) (s h : List ℕ) → length h ≡ header_size → r ≡ starts_with eqb s h → r ≡ same_bytes (take header_size s) h
starts_same r s h l e =
    let t = starts_is Decides-eqb s h r e in
    same_is r (take header_size s) h
    (λ q. ap (take header_size) (t.0 q) ∙ ap (λ (k : ℕ). take k (h ++ drop (length h) s)) (sym l) ∙ take-append_seam h (drop (length h) s))
    (λ q. t.1 (drop header_size s) (sym (take-append-drop header_size s) ∙ ap (λ (x : List ℕ). x ++ drop header_size s) q))

-- ---- the cases

module _ (N : ℕ) (m : List ℕ) (z : Stamp) (f : Files) where
  pub other_data : other_header z f.data_file ≡ true → true ≡ unready N m z f
  unfolding unready
  other_data e = rw e

  module _ (a : other_header z f.data_file ≡ false) where
    pub other_index : other_header z f.index_file ≡ true → true ≡ unready N m z f
    unfolding unready
    other_index e = rw (a, e)

    module _ (b : other_header z f.index_file ≡ false) where
      pub not_wiped : all_zero (drop slots_size m) ≡ false → true ≡ unready N m z f
      unfolding unready
      not_wiped e = rw (a, b, e)

      pub by_count : (k : ℕ) → all_zero (drop slots_size m) ≡ true → k ≡ offsets_in (length f.index_file) → ltb N k ≡ unready N m z f
      unfolding unready
      by_count k e q = rw (a, b, e, q)
