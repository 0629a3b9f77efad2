-- Laws of the list of a recovery: who is in it, and what its refusals leave known.
-- Assumes nothing.
use mathlib.Core.Path.{◌≡◌, refl, sym, ◌∙◌, subst⁻¹}
use mathlib.Core.Bool.{Bool, true, false, ◌||◌, false≢true}
use mathlib.Core.Logic.{◌⊎◌, inl, inr, ⊎_elim}
use mathlib.Core.List.{List, [], ◌∷◌}
use Prim.Native.Nat.{ℕ, ◌<◌}
use lib.Dec.{eqb, leb}
use borrow.Author.Tests.{eq-eqb, eqb-true, eqb-false, leb-false}
use Rattle.base.proofs.Tests.{neither, either}
use Rattle.recovery.specs.Recovery.{contains, repeats, not_below}

-- what a list without repeats says of its first
pub first_unique : (i : ℕ) (is : List ℕ) → repeats (i ∷ is) ≡ false → (contains is i ≡ false) × (repeats is ≡ false)
unfolding repeats
first_unique i is e = neither (contains is i) (repeats is) e

pub first_below : (r i : ℕ) (is : List ℕ) → not_below r (i ∷ is) ≡ false → (i < r) × (not_below r is ≡ false)
unfolding not_below
first_below r i is e = let n = neither (leb r i) (not_below r is) e in (leb-false r i n.0, n.1)

pub first_in : (i : ℕ) (is : List ℕ) → contains (i ∷ is) i ≡ true
unfolding contains
first_in i is = rw (eq-eqb i i refl)

pub later_in : (i j : ℕ) (is : List ℕ) → contains is j ≡ true → contains (i ∷ is) j ≡ true
unfolding contains
later_in i j is e = go (eqb i j) e
  where
    go : (b : Bool) → contains is j ≡ true → (b || contains is j) ≡ true
    go true e = refl
    go false e = e

pub not_first : (i j : ℕ) (is : List ℕ) → contains (i ∷ is) j ≡ false → (j ≡ i → ⊥) × (contains is j ≡ false)
unfolding contains
not_first i j is e = let n = neither (eqb i j) (contains is j) e in (λ q. eqb-false i j n.0 (sym q), n.1)

-- whoever is in a list is its first or one of the others
pub in_either : (i j : ℕ) (is : List ℕ) → contains (i ∷ is) j ≡ true → (j ≡ i) ⊎ (contains is j ≡ true)
unfolding contains
in_either i j is e = ⊎_elim (λ q. inl (sym (eqb-true i j q))) inr (either (eqb i j) (contains is j) e)

-- one that a list has is not one that it has not
pub differs : (i j : ℕ) (is : List ℕ) → contains is j ≡ true → contains is i ≡ false → j ≡ i → ⊥
differs i j is a b e = false≢true (sym b ∙ rw (sym e) a)

-- whoever is listed is below R
pub listed_below : (r i : ℕ) (is : List ℕ) → not_below r is ≡ false → contains is i ≡ true → i < r
unfolding contains
listed_below r i [] below e = absurd (false≢true e)
listed_below r i (k ∷ is) below e =
    let l = first_below r k is below in ⊎_elim (λ q. subst⁻¹ (λ (j : ℕ). j < r) q l.0) (listed_below r i is l.1) (in_either k i is e)
