-- The given bytes that a torn write leaves. Document 01, "Fates" and refusal 6.
-- Assumes nothing.
use Rattle.std.specs.Prelude.{◌≡◌, List, Bool, false, ◌||◌, ℕ, zero, suc, length, take}
use Rattle.fate.specs.declared.Left.TheVariants.{Torn}
use Rattle.fate.specs.declared.Fate.{Fate}
use Rattle.fate.specs.declared.Fate.TheVariants.{Cut}
use Rattle.storage.specs.Sizes.{slot_size, place_size}
use Rattle.storage.specs.Places.{valid_place}
use Rattle.storage.specs.Slots.{valid_slot}

-- "as any place from 1 to N"
unfoldable pub passes_as_place : ℕ → List ℕ → Bool
passes_as_place zero g = false
passes_as_place (suc n) g = valid_place (suc n) g || passes_as_place n g

-- "these pass as a slot or as any place from 1 to N"; "a slot takes the first 32"
unfoldable pub passes : ℕ → List ℕ → Bool
passes N g = valid_slot (take slot_size g) || passes_as_place N g

-- what refusal 6 leaves of a message's fate: bytes that a torn write leaves fail their check; other fates don't read them
pub record Harmless (N : ℕ) (f : Fate) (g : List ℕ) : Type 0 where
  pub size : length g ≡ place_size
  pub torn : (w : ℕ) → f ≡ Cut w Torn → passes N g ≡ false
