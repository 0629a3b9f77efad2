-- CRC-32, a bit at a time. Document 01, "Medium": "CRC-32 is IEEE 802.3, reflected; the ASCII string 123456789 gives hex CBF43926."
-- Assumes nothing.
use Rattle.std.specs.Prelude.{List, [], ◌∷◌, ◌++◌, Bool, ℕ, zero, suc, ◌*◌, ◌/◌, ◌%◌, eqb, take}
use Rattle.std.specs.Int.Bits.{bit_xor}
use Rattle.octets.specs.Octets.{part, be_of, be_bytes}

-- the polynomial of IEEE 802.3 with its bits reflected
abbrev pub polynomial : ℕ
polynomial = 0xedb8_8320

-- the register moves one bit down, and takes in the polynomial where the bit that leaves it is set
unfoldable pub bit_step : ℕ → ℕ
bit_step r = bit_xor (r / 2) ((r % 2) * polynomial)

-- k of these steps
unfoldable pub bit_steps : ℕ → ℕ → ℕ
bit_steps zero r = r
bit_steps (suc k) r = bit_steps k (bit_step r)

-- the register after the bytes of a list, each of which comes in at the low end
unfoldable pub crc_from : ℕ → List ℕ → ℕ
crc_from r [] = r
crc_from r (b ∷ bs) = crc_from (bit_steps 8 (bit_xor r b)) bs

-- the CRC of a list of bytes: the register starts with all bits set, and is inverted at the end
unfoldable pub crc_of : List ℕ → ℕ
crc_of s = bit_xor (crc_from 0xffff_ffff s) 0xffff_ffff

-- "CRC-32 of the 28 bytes before (4)", "of the 60 bytes before (4)" (68 since document 02, No. 7): the four bytes after the first k are the CRC of these
unfoldable pub checked : ℕ → List ℕ → Bool
checked k s = eqb (crc_of (take k s)) (be_of (part k 4 s))

-- bytes with their CRC behind them
unfoldable pub sealed : List ℕ → List ℕ
sealed h = h ++ be_bytes 4 (crc_of h)
