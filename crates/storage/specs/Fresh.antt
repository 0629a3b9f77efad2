-- A fresh medium. Document 01, "Register": "Fresh: .. every place wiped, both slots valid with all fields 0."
-- Assumes nothing.
use Rattle.std.specs.Prelude.{List, ◌++◌, ℕ, ◌*◌, replicate}
use Rattle.storage.specs.declared.slot.Slot.{Slot}
use Rattle.storage.specs.Sizes.{place_size}
use Rattle.storage.specs.Slots.{slot_bytes}

abbrev pub blank_slot : Slot
blank_slot = record { promise = 0; low = 0; local = 0 }

-- a wiped place is all zeros, so N of them are N times as many
unfoldable pub fresh_medium : ℕ → List ℕ
fresh_medium N = slot_bytes blank_slot ++ (slot_bytes blank_slot ++ replicate (place_size * N) 0)
