-- The layouts, sizes and limits of a medium, each named once. Document 01, "Medium"; document 02, No. 7: "The stored number becomes 64 bits and a
-- place 72 bytes, with four zero bytes before the check"; "Lent lengths, given bytes and layouts follow the new size from then on". That the sizes
-- are the layouts' is the law `sizes` of proofs/Records. The layout before No. 7 stands where it is read, in the crate converter (specs/Old).
-- Assumes nothing.
use Rattle.std.specs.Prelude.{[], ◌∷◌, ℕ, ◌+◌, ◌-◌, ◌*◌}
use Rattle.storage.specs.Layout.{Layout}

-- "promised session (8), low-water mark (8), local low-water mark (8), zeros (4), CRC-32 of the 28 bytes before (4)"
abbrev pub slot_layout : Layout
slot_layout = record { widths = 8 ∷ 8 ∷ 8 ∷ []; limit = 0; zeros = 4 }

-- "Two slots of 32 bytes"
abbrev pub slot_size : ℕ
slot_size = 32

-- "data length 0 to 28"
abbrev pub data_limit : ℕ
data_limit = 28

-- document 01, "ID (8), client, generation, partition, sequence (4 each), header (4), data length 0 to 28 (4), data (28, zeros after the
-- length), CRC-32 of the 60 bytes before (4)", with document 02's sequence of 8 and its four zeros before the check, which is of 68 bytes now
abbrev pub place_layout : Layout
place_layout = record { widths = 8 ∷ 4 ∷ 4 ∷ 4 ∷ 8 ∷ 4 ∷ 4 ∷ []; limit = data_limit; zeros = 4 }

-- "a place 72 bytes"
abbrev pub place_size : ℕ
place_size = 72

-- the two slots before the places
abbrev pub slots_size : ℕ
slots_size = 64

-- "a medium of N places (1 to 1,000)"
abbrev pub places_limit : ℕ
places_limit = 1000

-- "64 + 64 × N bytes", with places of 72
abbrev pub medium_size : ℕ → ℕ
medium_size N = slots_size + place_size * N

-- "Place n (from 1)"
abbrev pub place_offset : ℕ → ℕ
place_offset n = slots_size + place_size * (n - 1)
