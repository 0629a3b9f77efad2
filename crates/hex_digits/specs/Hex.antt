-- Bytes as hexadecimal digits, two a byte, both ways. Document 01, "Script program": "data in hexadecimal, either case", "odd data
-- digits" fit no form, "Data may be empty".
-- Assumes nothing.
use Rattle.std.specs.Prelude.{List, [], ◌∷◌, Bool, true, false, cond, ◌&&◌, ℕ, ◌+◌, ◌-◌, ◌*◌, ◌/◌, ◌%◌, leb, ltb}

-- ---- read: either case

-- what a digit stands for: 0 to 9, A to F, a to f; 16 where the byte is none
unfoldable pub digit_of : ℕ → ℕ
digit_of b = cond (leb 48 b && leb b 57) (b - 48) (cond (leb 65 b && leb b 70) (b - 55) (cond (leb 97 b && leb b 102) (b - 87) 16))

-- digits in pairs, and nothing else
unfoldable pub is_hex : List ℕ → Bool
is_hex [] = true
is_hex (a ∷ []) = false
is_hex (a ∷ b ∷ s) = ltb (digit_of a) 16 && ltb (digit_of b) 16 && is_hex s

-- the bytes that pairs of digits stand for
unfoldable pub bytes_of : List ℕ → List ℕ
bytes_of [] = []
bytes_of (a ∷ []) = []
bytes_of (a ∷ b ∷ s) = (16 * digit_of a + digit_of b) ∷ bytes_of s

-- ---- written: capitals

-- the digit of a number below 16: 0 to 9, then A to F
abbrev pub glyph_of : ℕ → ℕ
glyph_of d = cond (ltb d 10) (48 + d) (65 + (d - 10))

-- the digits of bytes
unfoldable pub hex_of : List ℕ → List ℕ
hex_of [] = []
hex_of (b ∷ s) = glyph_of (b / 16) ∷ glyph_of (b % 16) ∷ hex_of s
