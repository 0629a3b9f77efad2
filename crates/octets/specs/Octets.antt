-- Bytes at an offset of a list: a part of it, a write into it, and the numbers that its bytes stand for.
-- Document 01, "Medium": "integers big-endian".
-- Assumes nothing.
use Rattle.std.specs.Prelude.{List, [], ◌∷◌, ◌++◌, Bool, true, ◌&&◌, ℕ, zero, suc, ◌+◌, ◌*◌, ◌/◌, ◌%◌, ◌^◌, ◌<◌, length, get_or, take, drop, eqb}

-- n bytes from offset o
abbrev pub part : ℕ → ℕ → List ℕ → List ℕ
part o n m = take n (drop o m)

-- m with the bytes bs in place of those from offset o
unfoldable pub write_at : ℕ → List ℕ → List ℕ → List ℕ
write_at o bs m = take o m ++ (bs ++ drop (o + length bs) m)

-- the number whose bytes, highest first, are those of a and then those of a list
unfoldable pub be_from : ℕ → List ℕ → ℕ
be_from a [] = a
be_from a (b ∷ bs) = be_from (a * 256 + b) bs

-- "integers big-endian": the number that a list of bytes stands for
unfoldable pub be_of : List ℕ → ℕ
be_of s = be_from 0 s

-- the k low bytes of v, highest first
unfoldable pub be_bytes : ℕ → ℕ → List ℕ
be_bytes zero v = []
be_bytes (suc k) v = be_bytes k (v / 256) ++ (v % 256 ∷ [])

-- numbers one behind the other, each given as its width in bytes and its value
unfoldable pub fields_of : List (ℕ × ℕ) → List ℕ
fields_of [] = []
fields_of (f ∷ fs) = be_bytes f.0 f.1 ++ fields_of fs

-- ---- numbers one behind the other, by the list of their widths

-- values, each with its width
abbrev pub paired : List ℕ → List ℕ → List (ℕ × ℕ)
paired [] vs = []
paired (w ∷ ws) [] = []
paired (w ∷ ws) (v ∷ vs) = (w, v) ∷ paired ws vs

abbrev pub widths_of : List (ℕ × ℕ) → List ℕ
widths_of [] = []
widths_of (f ∷ fs) = f.0 ∷ widths_of fs

-- how many bytes they take
abbrev pub total : List ℕ → ℕ
total [] = 0
total (w ∷ ws) = w + total ws

-- where the i-th begins
abbrev pub offset_of : List ℕ → ℕ → ℕ
offset_of [] i = 0
offset_of (w ∷ ws) zero = 0
offset_of (w ∷ ws) (suc i) = w + offset_of ws i

-- the i-th, read
abbrev pub number_at : List ℕ → ℕ → List ℕ → ℕ
number_at ws i s = be_of (part (offset_of ws i) (get_or ws i 0) s)

-- all of them, read from offset o on
abbrev pub numbers_at : List ℕ → ℕ → List ℕ → List (ℕ × ℕ)
numbers_at [] o s = []
numbers_at (w ∷ ws) o s = (w, be_of (part o w s)) ∷ numbers_at ws (o + w) s

-- each has its width
abbrev pub Fits : List (ℕ × ℕ) → Type 0
Fits [] = Unit {0}
Fits (f ∷ fs) = (f.1 < 256 ^ f.0) × Fits fs

-- ---- bytes

-- every element is a byte: what the type `&[u8]` says of a slice
abbrev pub Bytes : List ℕ → Type 0
Bytes [] = Unit {0}
Bytes (b ∷ bs) = (b < 256) × Bytes bs

-- every byte is zero
unfoldable pub all_zero : List ℕ → Bool
all_zero [] = true
all_zero (b ∷ bs) = eqb b 0 && all_zero bs
