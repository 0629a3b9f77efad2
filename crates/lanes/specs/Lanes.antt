-- What the code goes by to take the CRCs of several pieces of a slice side by side.
-- Assumes nothing.
use Rattle.std.specs.Prelude.{◌≡◌, Bool, cond, List, ℕ, ◌+◌, ◌*◌, ◌<◌, ◌^◌, length, get_or}
use Rattle.octets.specs.Octets.{part, be_bytes}
use Rattle.crc32.specs.Crc32.{crc_from}

-- how many pieces go side by side
abbrev pub lanes : ℕ
lanes = 4

-- a slice is so many pieces of a size, which is small enough that no offset is too great
abbrev pub Pieces : ℕ → List ℕ → Type 0
Pieces size s = (length s ≡ size * lanes) × (size < 2 ^ 32)

-- the bytes of a step
abbrev pub width : Bool → ℕ
width wide = cond wide 8 4

-- each register goes on over the w bytes from an offset of its piece
abbrev pub Onward : ℕ → ℕ → ℕ → List ℕ → List ℕ → List ℕ → Type 0
Onward w at size s rs rs' = (j : ℕ) → j < lanes → get_or rs' j 0 ≡ crc_from (get_or rs j 0) (part (at + size * j) w s)

-- the register after the eight bytes of a number
unfoldable pub after_number : ℕ → ℕ
after_number n = crc_from 0xffff_ffff (be_bytes 8 n)

-- each register has taken in the eight bytes of a number: n, and those that follow it
abbrev pub Numbered : ℕ → List ℕ → Type 0
Numbered n rs = (j : ℕ) → j < lanes → get_or rs j 0 ≡ after_number (n + j)
