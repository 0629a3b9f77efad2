-- A medium as a list of places: what a write does to it.
-- Assumes nothing.
use mathlib.Core.Path.{◌≡◌, refl, sym, ap, ap₂, ◌∙◌}
use mathlib.Core.List.{List, [], ◌∷◌}
use Prim.Native.Nat.{ℕ, zero, suc, ◌+◌, ◌-◌, ◌≤◌, ◌<◌}
use native.Mathlib.Nat.{add-zero, le_of_suc-le-suc, not-suc-le-zero}
use native.Mathlib.Omega.{arith}
use native.Mathlib.Decide.{ℕ_discrete, dec_lt}
use lib.ListN.{length, get_or, set, length-set}
use lib.Seq.{get_or-set_same, get_or-set_other, ext_get_or}
use Rattle.octets.specs.Octets.{part, write_at}
use Rattle.octets.proofs.Laws.{part_write, part_before, part_after}
use Rattle.storage.specs.Sizes.{slots_size, place_size, medium_size, place_offset}
use Rattle.storage.specs.Log.{place_at, places_from}
use Rattle.storage.proofs.Scan.{length_places}

pub get_d_places : (k n i : ℕ) (m : List ℕ) → i < k → get_or (places_from k n m) i [] ≡ place_at (n + i) m
unfolding places_from
get_d_places zero n i m h = absurd (not-suc-le-zero h)
get_d_places (suc k) n zero m h = ap (λ (x : ℕ). place_at x m) (sym (add-zero n))
get_d_places (suc k) n (suc i) m h =
    let q : n + 1 + i ≡ n + suc i = omega arith in
    get_d_places k (n + 1) i m (le_of_suc-le-suc h) ∙ ap (λ (x : ℕ). place_at x m) q

module _ (N : ℕ) (m bs : List ℕ) (size : length m ≡ medium_size N) where
  -- a write of place j changes that place, and no other
  pub place_same : (j : ℕ) → 1 ≤ j → j ≤ N → length bs ≡ place_size → place_at j (write_at (place_offset j) bs m) ≡ bs
  unfolding place_at
  place_same j lo h l = ap (λ (k : ℕ). part (place_offset j) k (write_at (place_offset j) bs m)) (sym l) ∙ part_write (place_offset j) bs m (omega arith)

  pub place_other : (i j : ℕ) → 1 ≤ i → 1 ≤ j → j ≤ N → length bs ≡ place_size → (i ≡ j → ⊥) → place_at i (write_at (place_offset j) bs m) ≡ place_at i m
  unfolding place_at
  place_other i j li lo h l ne = go (dec_lt i j)
    where
      go : Dec (i < j) → part (place_offset i) place_size (write_at (place_offset j) bs m) ≡ part (place_offset i) place_size m
      go (yes p) = part_before (place_offset j) (place_offset i) place_size bs m (omega arith) (omega arith)
      go (no p) = part_after (place_offset j) (place_offset i) place_size bs m (omega (arith, ne, p)) (omega arith)

  pub places_write : (j : ℕ) → 1 ≤ j → j ≤ N → length bs ≡ place_size → places_from N 1 (write_at (place_offset j) bs m) ≡ set (places_from N 1 m) (j - 1) bs
  places_write j lo hi l =
      ext_get_or [] (places_from N 1 (write_at (place_offset j) bs m)) (set (places_from N 1 m) (j - 1) bs)
      (length_places N 1 (write_at (place_offset j) bs m) ∙ sym (length-set (places_from N 1 m) (j - 1) bs ∙ length_places N 1 m))
      (λ i h. at i (omega (arith, h, length_places N 1 (write_at (place_offset j) bs m))) (ℕ_discrete i (j - 1)))
    where
      at : (i : ℕ) → i < N → Dec (i ≡ j - 1) → get_or (places_from N 1 (write_at (place_offset j) bs m)) i [] ≡ get_or (set (places_from N 1 m) (j - 1) bs) i []
      at i h (yes e) =
          let q : 1 + i ≡ j = omega (arith, e) in
          get_d_places N 1 i (write_at (place_offset j) bs m) h ∙ ap (λ (x : ℕ). place_at x (write_at (place_offset j) bs m)) q ∙ place_same j lo hi l
          ∙ sym (ap (λ (x : ℕ). get_or (set (places_from N 1 m) (j - 1) bs) x []) e ∙ get_or-set_same (places_from N 1 m) (j - 1) bs [] (omega (arith, length_places N 1 m)))
      at i h (no ne) =
          get_d_places N 1 i (write_at (place_offset j) bs m) h ∙ place_other (1 + i) j (omega arith) lo hi l (λ e. ne (omega (arith, e)))
          ∙ sym (get_or-set_other (places_from N 1 m) (j - 1) i bs [] ne ∙ get_d_places N 1 i m h)

  -- a write among the slots changes no place
  pub places_kept : (k n o : ℕ) → 1 ≤ n → o + length bs ≤ slots_size → places_from k n (write_at o bs m) ≡ places_from k n m
  unfolding places_from place_at
  places_kept zero n o p h = refl
  places_kept (suc k) n o p h =
      ap₂ (λ (x : List ℕ) (r : List (List ℕ)). x ∷ r) (part_after o (place_offset n) place_size bs m (omega arith) (omega arith)) (places_kept k (n + 1) o (omega arith) h)

  -- a write of a place changes no slot
  pub slots_kept : (j p q : ℕ) → 1 ≤ j → j ≤ N → p + q ≤ slots_size → part p q (write_at (place_offset j) bs m) ≡ part p q m
  slots_kept j p q lo hi h = part_before (place_offset j) p q bs m (omega arith) (omega arith)
