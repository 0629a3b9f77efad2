-- A slot: 32 bytes that hold a replica's promise and low-water marks. A medium has two. Document 01, "Medium", first point.
-- Assumes nothing.
use Rattle.std.specs.Prelude.{List, [], ◌∷◌, Bool, cond, ◌&&◌, ◌||◌, ◌≡◌, ℕ, ◌^◌, ◌<◌, eqb, ltb}
use Rattle.octets.specs.Octets.{part, paired}
use Rattle.storage.specs.declared.slot.Slot.{Slot}
use Rattle.storage.specs.declared.slot.Current.{Current}
use Rattle.storage.specs.declared.slot.Current.TheVariants.{First, Second, Neither}
use Rattle.storage.specs.Layout.{record_of, number_in, formed}
use Rattle.storage.specs.Sizes.{slot_layout, slot_size}

-- "promised session, low-water mark, local low-water mark", each with its width
abbrev pub slot_numbers : Slot → List (ℕ × ℕ)
slot_numbers x = paired slot_layout.widths (x.promise ∷ x.low ∷ x.local ∷ [])

-- each number has its width: what the type u64 says of them
pub record FittingSlot (x : Slot) : Type 0 where
  pub promise : x.promise < 2 ^ 64
  pub low : x.low < 2 ^ 64
  pub local : x.local < 2 ^ 64

unfoldable pub slot_bytes : Slot → List ℕ
slot_bytes x = record_of slot_layout (slot_numbers x) []

unfoldable pub slot_of : List ℕ → Slot
slot_of s = record { promise = number_in slot_layout 0 s; low = number_in slot_layout 1 s; local = number_in slot_layout 2 s }

-- "A slot is valid if its zeros are zero and its check agrees."
unfoldable pub valid_slot : List ℕ → Bool
valid_slot s = formed slot_layout 0 s

-- "Two slots of 32 bytes, at 0 and 32"
abbrev pub first_of : List ℕ → List ℕ
first_of m = part 0 slot_size m

abbrev pub second_of : List ℕ → List ℕ
second_of m = part slot_size slot_size m

-- "the greater promised session, then the greater low-water mark, then slot at 0": b goes before a, which is at 0
unfoldable pub newer : Slot → Slot → Bool
newer a b = ltb a.promise b.promise || (eqb a.promise b.promise && ltb a.low b.low)

-- "The current slot is the valid one with .."
unfoldable pub current_of : List ℕ → Current
current_of m =
    cond (valid_slot (first_of m))
    (cond (valid_slot (second_of m)) (cond (newer (slot_of (first_of m)) (slot_of (second_of m))) Second First) First)
    (cond (valid_slot (second_of m)) Second Neither)

-- what the current slot holds
abbrev pub held_of : Current → List ℕ → Slot
held_of First m = slot_of (first_of m)
held_of Second m = slot_of (second_of m)
held_of Neither m = record { promise = 0; low = 0; local = 0 }

unfoldable pub stored_slot : List ℕ → Slot
stored_slot m = held_of (current_of m) m

-- a replica has a valid slot
abbrev pub HasSlot : List ℕ → Type 0
HasSlot m = current_of m ≡ Neither → ⊥

-- "A slot write goes to the other one."
abbrev pub other_at : Current → ℕ
other_at First = slot_size
other_at Second = 0
other_at Neither = 0
