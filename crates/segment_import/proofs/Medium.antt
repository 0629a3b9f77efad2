-- The medium after an import: the places read from the records are one write behind the slots (storage proofs/Filled), so they stand there one behind the
-- other, and all else is kept; and where the places were wiped, the mark is the number of records.
-- Assumes nothing.
use mathlib.Core.Path.{◌≡◌, sym, ap, ◌∙◌, subst}
use mathlib.Core.Bool.{true}
use mathlib.Core.List.{List}
use Prim.Native.Nat.{ℕ, zero, suc, ◌+◌, ◌≤◌, ◌<◌}
use native.Mathlib.Omega.{arith}
use lib.ListN.{length, take, drop}
use Rattle.octets.specs.Octets.{write_at, all_zero}
use Rattle.octets.proofs.Laws.{write_none}
use Rattle.storage.specs.Sizes.{slots_size, medium_size, place_offset}
use Rattle.storage.specs.Places.{valid_place}
use Rattle.storage.specs.Log.{place_at, places_from, mark_of}
use Rattle.storage.proofs.Filled as storage
use Rattle.storage.proofs.Filled.{AllValid, AllLong, joined, length_first, first_more}
use Rattle.segment.specs.Records.{record_size, place_in}
use Rattle.segment_import.specs.Import.{filled}
use Rattle.segment_import.proofs.Places.{places_in, length_places_in}

-- what import writes, a place at a time
pub filled_written : (n k : ℕ) (s m : List ℕ) → AllLong (places_in k s) → 1 ≤ n → place_offset (n + k) ≤ length m
    → filled n k s m ≡ write_at (place_offset n) (joined (places_in k s)) m
unfolding filled places_in joined
filled_written n zero s m v lo h = sym (write_none m (place_offset n))
filled_written n (suc k) s m v lo h =
    let p = place_in s in
    let rest = drop (record_size s) s in
    let ps = places_in k rest in
    let l = length_places_in k rest in
    let h₁ : place_offset (n + suc (length ps)) ≤ length m = omega (arith, l) in
    filled_written (n + 1) k rest (write_at (place_offset n) p m) v.1 (omega arith) (omega (arith, length_first n p m ps v lo h₁))
    ∙ first_more n p m ps v lo h₁

-- valid places of a medium, as a list of them
pub valid_places : (k n : ℕ) (m : List ℕ) → ((i : ℕ) → i < k → valid_place (n + i) (place_at (n + i) m) ≡ true) → AllValid n (places_from k n m)
unfolding places_from
valid_places zero n m h = tt
valid_places (suc k) n m h =
    let q : n + 0 ≡ n = omega arith in
    (ap (λ (j : ℕ). valid_place j (place_at j m)) (sym q) ∙ h 0 (omega arith), valid_places k (n + 1) m (λ i l. shifted i (h (suc i) (omega arith))))
  where
    shifted : (i : ℕ) → valid_place (n + suc i) (place_at (n + suc i) m) ≡ true → valid_place (n + 1 + i) (place_at (n + 1 + i) m) ≡ true
    shifted i e = let q : n + 1 + i ≡ n + suc i = omega arith in ap (λ (j : ℕ). valid_place j (place_at j m)) q ∙ e

pub record Filled (N k : ℕ) (s m r : List ℕ) : Type 0 where
  pub places : places_from k 1 r ≡ places_in k s
  pub slots : take slots_size r ≡ take slots_size m
  pub behind : drop (medium_size k) r ≡ drop (medium_size k) m
  pub others : (n : ℕ) → k < n → place_at n r ≡ place_at n m
  pub size : length r ≡ length m
  pub mark : AllValid 1 (places_in k s) → all_zero (drop slots_size m) ≡ true → mark_of N r ≡ k

pub filled_is : (N k : ℕ) (s m : List ℕ) → length m ≡ medium_size N → k ≤ N → AllLong (places_in k s) → Filled N k s m (filled 1 k s m)
filled_is N k s m l h v =
    let lk = length_places_in k s in
    let f = storage.filled_is N (places_in k s) m l (omega (arith, lk)) v in
    let e : filled 1 k s m ≡ write_at slots_size (joined (places_in k s)) m = filled_written 1 k s m v (omega arith) (omega arith) in
    subst (Filled N k s m) (sym e) (record {
      places = ap (λ (i : ℕ). places_from i 1 (write_at slots_size (joined (places_in k s)) m)) (sym lk) ∙ f.places;
      slots = f.slots;
      behind = rw lk at f.behind;
      others = λ n g. f.others n (omega (arith, lk));
      size = f.size;
      mark = λ a z. f.mark a z ∙ lk;
    })
