-- What a slot was made of can be read from it, and it is valid.
-- Assumes nothing.
use mathlib.Core.Path.{◌≡◌, refl, ap}
use mathlib.Core.Bool.{true}
use mathlib.Core.List.{List, []}
use Prim.Native.Nat.{ℕ, zero-le}
use lib.ListN.{length, get_or}
use Rattle.octets.specs.Octets.{numbers_at}
use Rattle.storage.specs.declared.slot.Slot.{Slot}
use Rattle.storage.specs.Sizes.{slot_layout, slot_size}
use Rattle.storage.specs.Slots.{slot_numbers, slot_bytes, slot_of, valid_slot, FittingSlot}
use Rattle.storage.proofs.Layouts.{numbers_again, record_length, record_formed}

module _ (x : Slot) where
  -- the i-th number is read back
  number : FittingSlot x → (i : ℕ) → (get_or (numbers_at slot_layout.widths 0 (slot_bytes x)) i (0, 0)).1 ≡ (get_or (slot_numbers x) i (0, 0)).1
  unfolding slot_bytes
  number w i =
      ap (λ (l : List (ℕ × ℕ)). (get_or l i (0, 0)).1) (numbers_again slot_layout (slot_numbers x) [] refl zero-le (w.promise, (w.low, (w.local, tt))))

  pub slot_back : FittingSlot x → slot_of (slot_bytes x) ≡ x
  unfolding slot_of
  slot_back w = λ i. record { promise = number w 0 i; low = number w 1 i; local = number w 2 i }

  pub slot_length : length (slot_bytes x) ≡ slot_size
  unfolding slot_bytes
  slot_length = record_length slot_layout (slot_numbers x) [] refl zero-le

  pub slot_valid : valid_slot (slot_bytes x) ≡ true
  unfolding valid_slot slot_bytes
  slot_valid = record_formed slot_layout (slot_numbers x) [] refl zero-le tt
