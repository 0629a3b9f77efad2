-- The layout of a record: numbers, data, zeros, and the CRC-32 of all that. By one list of widths a record is written, read and judged;
-- a slot and a place are two of these layouts (specs/Sizes). Document 01, "Medium".
-- Assumes nothing.
use Rattle.std.specs.Prelude.{List, ◌++◌, Bool, ◌&&◌, ℕ, ◌+◌, ◌-◌, eqb, leb, length, replicate}
use Rattle.octets.specs.Octets.{part, fields_of, total, number_at, all_zero}
use Rattle.crc32.specs.Crc32.{checked, sealed}

pub record Layout : Type 0 where
  pub widths : List ℕ  -- of the numbers, in bytes
  pub limit : ℕ  -- the most data
  pub zeros : ℕ  -- the zeros before the check, whatever the data

-- "CRC-32 .. (4)"
abbrev pub check_size : ℕ
check_size = 4

-- the bytes before the data, before the check, and all
abbrev pub data_offset : Layout → ℕ
data_offset L = total L.widths

abbrev pub check_offset : Layout → ℕ
check_offset L = data_offset L + (L.limit + L.zeros)

abbrev pub layout_size : Layout → ℕ
layout_size L = check_offset L + check_size

-- ---- writing

-- data, and zeros behind them
abbrev pub padded : Layout → List ℕ → List ℕ
padded L d = d ++ replicate (L.limit + L.zeros - length d) 0

-- the record of numbers, each with its width, and of data
abbrev pub head_of : Layout → List (ℕ × ℕ) → List ℕ → List ℕ
head_of L fs d = fields_of fs ++ padded L d

abbrev pub record_of : Layout → List (ℕ × ℕ) → List ℕ → List ℕ
record_of L fs d = sealed (head_of L fs d)

-- ---- reading

-- the i-th number
abbrev pub number_in : Layout → ℕ → List ℕ → ℕ
number_in L i s = number_at L.widths i s

-- k bytes of data
abbrev pub data_in : Layout → ℕ → List ℕ → List ℕ
data_in L k s = part (data_offset L) k s

-- whether bytes are a record with k bytes of data: their length and the data's, the zeros, the check
abbrev pub formed : Layout → ℕ → List ℕ → Bool
formed L k s =
    eqb (length s) (layout_size L)
    && leb k L.limit
    && all_zero (part (data_offset L + k) (L.limit + L.zeros - k) s)
    && checked (check_offset L) s
