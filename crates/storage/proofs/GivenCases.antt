-- Given bytes can pass as one place only: the one whose number they begin with.
-- Assumes nothing.
use mathlib.Core.Path.{◌≡◌, refl, sym, ap, ◌∙◌}
use mathlib.Core.Logic.{◌⊎◌, inl, inr, ⊎_elim}
use mathlib.Core.Bool.{true, false, ◌||◌, or-false}
use mathlib.Core.List.{List}
use Prim.Native.Nat.{ℕ, zero, suc, ◌≤◌, ◌<◌}
use native.Mathlib.Omega.{arith}
use native.Mathlib.Decide.{ℕ_discrete}
use lib.ListN.{take}
use Rattle.storage.specs.Sizes.{slot_size}
use Rattle.storage.specs.Places.{id_of, valid_place}
use Rattle.storage.specs.Slots.{valid_slot}
use Rattle.storage.specs.Given.{passes_as_place, passes}
use Rattle.storage.proofs.PlaceCases.{bad_id}

module _ (g : List ℕ) where
  other : (n : ℕ) → (id_of g ≡ n → ⊥) → valid_place n g ≡ false
  other n h = sym (bad_id n g h)

  none_below : (N : ℕ) → (id_of g ≡ 0) ⊎ (N < id_of g) → passes_as_place N g ≡ false
  unfolding passes_as_place
  none_below zero h = refl
  none_below (suc N) h =
      rw (other (suc N) (λ e. ⊎_elim (λ z. omega (arith, e, z)) (λ l. omega (arith, e, l)) h))
      (none_below N (⊎_elim (λ z. inl z) (λ l. inr (omega (arith, l))) h))

  only_named : (N : ℕ) → 1 ≤ id_of g → id_of g ≤ N → passes_as_place N g ≡ valid_place (id_of g) g
  unfolding passes_as_place
  only_named zero lo hi = absurd (omega arith)
  only_named (suc N) lo hi = go (ℕ_discrete (id_of g) (suc N)) (λ h. only_named N lo h)
    where
      go : Dec (id_of g ≡ suc N) → (id_of g ≤ N → passes_as_place N g ≡ valid_place (id_of g) g) → (valid_place (suc N) g || passes_as_place N g) ≡ valid_place (id_of g) g
      go (yes e) ih = rw (none_below N (inr (omega (arith, e)))) (or-false (valid_place (suc N) g) ∙ ap (λ (i : ℕ). valid_place i g) (sym e))
      go (no ne) ih = rw (other (suc N) ne) (ih (omega (arith, ne)))

  pub as_slot : (N : ℕ) → valid_slot (take slot_size g) ≡ true → true ≡ passes N g
  unfolding passes
  as_slot N v = rw v

  pub as_none : (N : ℕ) → valid_slot (take slot_size g) ≡ false → (id_of g ≡ 0) ⊎ (N < id_of g) → false ≡ passes N g
  unfolding passes
  as_none N v h = rw (v, none_below N h)

  pub as_named : (N : ℕ) → valid_slot (take slot_size g) ≡ false → 1 ≤ id_of g → id_of g ≤ N → valid_place (id_of g) g ≡ passes N g
  unfolding passes
  as_named N v lo hi = rw (v, only_named N lo hi)
