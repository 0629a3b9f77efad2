-- What the scan for a mark goes by: places one behind the other in a slice, and what is known of a group of them before their checks.
-- Assumes nothing.
use Rattle.std.specs.Prelude.{◌≡◌, List, [], ◌∷◌, ℕ, zero, suc, ◌+◌, ◌*◌, ◌<◌, eqb, length, get_or, take, drop}
use Rattle.std.specs.Int.Bits.{bit_xor}
use Rattle.octets.specs.Octets.{part, be_of}
use Rattle.crc32.specs.Crc32.{checked}
use Rattle.lanes.specs.Lanes.{lanes}
use Rattle.storage.specs.Layout.{check_offset, check_size}
use Rattle.storage.specs.Sizes.{place_layout, place_size}
use Rattle.storage.specs.Places.{id_of, valid_place}
use Rattle.storage.specs.Log.{run}

-- k places from the front of a list of bytes
unfoldable pub rows : ℕ → List ℕ → List (List ℕ)
rows zero s = []
rows (suc k) s = take place_size s ∷ rows k (drop place_size s)

-- how many of them are valid, up to the first that is not, if the first of all follows place n
unfoldable pub valid_rows : ℕ → ℕ → List ℕ → ℕ
valid_rows k n s = length (run (n + 1) (rows k s))

-- the j-th of them
abbrev pub row : ℕ → List ℕ → List ℕ
row j s = part (place_size * j) place_size s

-- of the j-th only the check is left to judge, and its ID is its number
abbrev pub Fit : ℕ → List ℕ → ℕ → Type 0
Fit n s j = (valid_place (n + j + 1) (row j s) ≡ checked (check_offset place_layout) (row j s)) × (id_of (row j s) ≡ n + j + 1)

-- so it is with each place of a group
abbrev pub AllFit : ℕ → List ℕ → Type 0
AllFit n s = (j : ℕ) → j < lanes → Fit n s j

-- each is valid exactly if its check is what its lane's register comes to
abbrev pub Checks : ℕ → List ℕ → List ℕ → Type 0
Checks n s rs = (j : ℕ) → j < lanes
    → valid_place (n + j + 1) (row j s) ≡ eqb (bit_xor (get_or rs j 0) 0xffff_ffff) (be_of (part (check_offset place_layout + place_size * j) check_size s))
