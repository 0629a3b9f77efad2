-- The log of a medium and its mark. Document 01, "Words" and "Medium".
-- Assumes nothing.
use Rattle.std.specs.Prelude.{◌≡◌, List, [], ◌∷◌, Bool, false, cond, ℕ, zero, suc, ◌+◌, ◌≤◌, ◌<◌, length}
use Rattle.octets.specs.Octets.{part}
use Rattle.storage.specs.Sizes.{place_size, medium_size, place_offset}
use Rattle.storage.specs.Places.{valid_place}

-- the bytes of place n
unfoldable pub place_at : ℕ → List ℕ → List ℕ
place_at n m = part (place_offset n) place_size m

-- k places from place n on
unfoldable pub places_from : ℕ → ℕ → List ℕ → List (List ℕ)
places_from zero n m = []
places_from (suc k) n m = place_at n m ∷ places_from k (n + 1) m

-- the run of places at the front that are valid, of places from place n on
unfoldable pub run_by : (ℕ → List ℕ → Bool) → ℕ → List (List ℕ) → List (List ℕ)
run_by valid n [] = []
run_by valid n (p ∷ ps) = cond (valid n p) (p ∷ run_by valid (n + 1) ps) []

abbrev pub run : ℕ → List (List ℕ) → List (List ℕ)
run n ps = run_by valid_place n ps

-- "The log is the run of valid places from place 1." N is the number of places.
unfoldable pub log_of : ℕ → List ℕ → List (List ℕ)
log_of N m = run 1 (places_from N 1 m)

-- "A mark is the highest ID held, 0 for an empty log."
unfoldable pub mark_of : ℕ → List ℕ → ℕ
mark_of N m = length (log_of N m)

-- a medium of N places with no valid place above its mark: what every operation keeps
pub record Sound (N : ℕ) (m : List ℕ) : Type 0 where
  pub size : length m ≡ medium_size N
  pub clean : (n : ℕ) → mark_of N m < n → n ≤ N → valid_place n (place_at n m) ≡ false
