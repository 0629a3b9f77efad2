-- The text of a line: fields with a tab between two, numbers in base ten, read and written. Document 01, "Script program": "tab between fields",
-- "Numbers are in base ten".
-- Assumes nothing.
use Rattle.std.specs.Prelude.{Option, Some, None, List, [], ◌∷◌, ◌++◌, cond, ◌&&◌, ◌==◌, ℕ, zero, suc, ◌+◌, ◌-◌, ◌*◌, ◌/◌, ◌%◌, ◌^◌, take, drop, count_by, ltb, leb}
use Rattle.byte_search.specs.Bytes.{index_of}

abbrev pub tab : ℕ
tab = 9

-- what ends a line
abbrev pub newline : ℕ
newline = 10

-- what stands before the first tab, and behind it
unfoldable pub first_of : List ℕ → List ℕ
first_of s = take (index_of tab s) s

unfoldable pub behind_of : List ℕ → List ℕ
behind_of s = drop (index_of tab s + 1) s

-- what stands behind the first k tabs; nothing where there are fewer
unfoldable pub after_of : ℕ → List ℕ → List ℕ
after_of zero s = s
after_of (suc k) s = after_of k (behind_of s)

-- field k, from 0; empty where the line has fewer
abbrev pub field_of : ℕ → List ℕ → List ℕ
field_of k s = first_of (after_of k s)

unfoldable pub field_count : List ℕ → ℕ
field_count s = 1 + count_by (λ b. b == tab) s

-- the number with one more digit behind it
abbrev pub with_digit : Option ℕ → ℕ → Option ℕ
with_digit None b = None
with_digit (Some v) b =
    cond (leb 48 b && leb b 57 && ltb (v * 10 + (b - 48)) (2 ^ 64)) (Some (v * 10 + (b - 48))) None

unfoldable pub with_digits : Option ℕ → List ℕ → Option ℕ
with_digits n [] = n
with_digits n (b ∷ s) = with_digits (with_digit n b) s

-- the number of 64 bits that digits stand for: at least one, and nothing else
unfoldable pub number_of : List ℕ → Option ℕ
number_of [] = None
number_of (b ∷ s) = with_digits (Some 0) (b ∷ s)

-- the same of 32 bits
abbrev pub word_of : Option ℕ → Option ℕ
word_of None = None
word_of (Some v) = cond (ltb v (2 ^ 32)) (Some v) None

-- ---- written

-- a number's digits in base ten, of which there are k at most
unfoldable pub spelled : ℕ → ℕ → List ℕ
spelled zero n = []
spelled (suc k) n = cond (ltb n 10) ((48 + n) ∷ []) (spelled k (n / 10) ++ ((48 + n % 10) ∷ []))

-- 20 digits hold a number of 64 bits
abbrev pub decimal_of : ℕ → List ℕ
decimal_of n = spelled 20 n
