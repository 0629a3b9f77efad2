-- A medium as it was before document 02, No. 7: what the converter reads. Only its places differ, by their layout; the two slots are what they are
-- (storage specs/Slots), and a place is read and judged by the same definitions (storage specs/Places, first half).
-- Document 01, "Medium: 64 + 64 × N bytes".
-- Assumes nothing.
use Rattle.std.specs.Prelude.{List, [], ◌∷◌, Bool, ℕ, zero, suc, ◌+◌, ◌-◌, ◌*◌, length}
use Rattle.octets.specs.Octets.{part}
use Rattle.storage.specs.declared.place.Fields.{Fields}
use Rattle.storage.specs.Layout.{Layout}
use Rattle.storage.specs.Sizes.{data_limit, slots_size}
use Rattle.storage.specs.Places.{fields_as, data_as, valid_as, record_bytes}
use Rattle.storage.specs.Log.{run_by}

-- "ID (8), client, generation, partition, sequence (4 each), header (4), data length 0 to 28 (4), data (28, zeros after the length),
-- CRC-32 of the 60 bytes before (4)"
abbrev pub old_layout : Layout
old_layout = record { widths = 8 ∷ 4 ∷ 4 ∷ 4 ∷ 4 ∷ 4 ∷ 4 ∷ []; limit = data_limit; zeros = 0 }

abbrev pub old_place_size : ℕ
old_place_size = 64

-- "64 + 64 × N bytes"
abbrev pub old_medium_size : ℕ → ℕ
old_medium_size N = slots_size + old_place_size * N

-- ---- a place

unfoldable pub old_fields : List ℕ → Fields
old_fields s = fields_as old_layout s

unfoldable pub old_data : List ℕ → List ℕ
old_data s = data_as old_layout s

-- "A place is valid if its ID is its number, its length and zeros fit and its check agrees."
unfoldable pub old_valid : ℕ → List ℕ → Bool
old_valid n s = valid_as old_layout n s

-- an old place's record in the new layout: the same fields and data, the sequence as a number
unfoldable pub renewed : List ℕ → List ℕ
renewed s = record_bytes (old_fields s) (old_data s)

-- ---- the log

-- "Place n (from 1)"
unfoldable pub old_place_at : ℕ → List ℕ → List ℕ
old_place_at n m = part (slots_size + old_place_size * (n - 1)) old_place_size m

-- k places from place n on
unfoldable pub old_places_from : ℕ → ℕ → List ℕ → List (List ℕ)
old_places_from zero n m = []
old_places_from (suc k) n m = old_place_at n m ∷ old_places_from k (n + 1) m

-- "The log is the run of valid places from place 1." N is the number of places.
unfoldable pub old_log : ℕ → List ℕ → List (List ℕ)
old_log N m = run_by old_valid 1 (old_places_from N 1 m)

-- "A mark is the highest ID held, 0 for an empty log."
unfoldable pub old_mark : ℕ → List ℕ → ℕ
old_mark N m = length (old_log N m)
