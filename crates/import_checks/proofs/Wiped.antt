-- Whether the places of a medium are all wiped: where the bytes behind its slots are not all zero, one of its places is not. (That they are wiped where
-- these are: storage proofs/Filled `all_wiped`.)
-- Assumes nothing.
use mathlib.Core.Path.{◌≡◌, refl, sym, ap, ◌∙◌}
use mathlib.Core.Bool.{Bool, true, false, ◌&&◌, false≢true}
use mathlib.Core.List.{List, [], ◌∷◌}
use Prim.Native.Nat.{ℕ, zero, suc, ◌+◌, ◌-◌, ◌*◌, ◌≤◌, ◌<◌}
use native.Mathlib.Omega.{arith}
use lib.ListN.{length, take, drop, length-drop}
use lib.Seq.{drop-drop}
use Rattle.octets.specs.Octets.{part, all_zero}
use Rattle.octets.proofs.Reading.{zeros_zero}
use Rattle.storage.specs.Sizes.{slots_size, place_size, medium_size}
use Rattle.storage.specs.Places.{wiped}
use Rattle.storage.specs.Log.{place_at}
use Rattle.storage.proofs.Filled.{zero_pieces, place_behind}

-- N blocks that are not all zero: one of them is not
not_zero : (N : ℕ) (s : List ℕ) → length s ≡ place_size * N → all_zero s ≡ false → (i : ℕ) × (i < N) × (all_zero (part (place_size * i) place_size s) ≡ false)
unfolding all_zero
not_zero zero [] l h = absurd (false≢true (sym h))
not_zero zero (b ∷ s) l h = absurd (omega arith)
not_zero (suc N) s l h =
    go (all_zero (take place_size s)) refl (λ e. not_zero N (drop place_size s) (length-drop place_size s ∙ omega arith) e)
  where
    go : (b : Bool) → all_zero (take place_size s) ≡ b
        → (all_zero (drop place_size s) ≡ false → (i : ℕ) × (i < N) × (all_zero (part (place_size * i) place_size (drop place_size s)) ≡ false))
        → (i : ℕ) × (i < suc N) × (all_zero (part (place_size * i) place_size s) ≡ false)
    go false e f = (0, omega arith, e)
    go true e f =
        let r = f (ap (λ (t : Bool). t && all_zero (drop place_size s)) (sym e) ∙ sym (zero_pieces place_size s) ∙ h) in
        let i = r.0 in
        let q : place_size * suc i ≡ place_size + place_size * i = omega arith in
        let same : part (place_size * suc i) place_size s ≡ part (place_size * i) place_size (drop place_size s) =
        ap (take place_size) (ap (λ (j : ℕ). drop j s) q ∙ sym (drop-drop (place_size * i) place_size s)) in
        (suc i, omega (arith, r.1), ap all_zero same ∙ r.2)

pub some_written : (N : ℕ) (m : List ℕ) → length m ≡ medium_size N → all_zero (drop slots_size m) ≡ false
    → (n : ℕ) × (1 ≤ n) × (n ≤ N) × (place_at n m ≡ wiped → ⊥)
unfolding wiped
some_written N m l h =
    let r = not_zero N (drop slots_size m) (length-drop slots_size m ∙ omega arith) h in
    let i = r.0 in
    let q : place_size * (i + 1 - 1) ≡ place_size * i = omega arith in
    let same : place_at (i + 1) m ≡ part (place_size * i) place_size (drop slots_size m) =
    place_behind (i + 1) m ∙ ap (λ (j : ℕ). part j place_size (drop slots_size m)) q in
    (i + 1, omega arith, omega (arith, r.1), λ e. false≢true (sym r.2 ∙ ap all_zero (sym same ∙ e) ∙ zeros_zero place_size))

-- so where every place is wiped, all is zero behind the slots
pub all_zero_lem : (N : ℕ) (m : List ℕ) → length m ≡ medium_size N → ((n : ℕ) → 1 ≤ n → n ≤ N → place_at n m ≡ wiped) → all_zero (drop slots_size m) ≡ true
all_zero_lem N m l w = go (all_zero (drop slots_size m)) refl
  where
    go : (b : Bool) → all_zero (drop slots_size m) ≡ b → b ≡ true
    go true e = refl
    go false e = let r = some_written N m l e in absurd (r.3 (w r.0 r.1 r.2))
