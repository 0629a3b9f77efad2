-- What the code goes by to take eight bytes a step: tables of bit steps, and bytes as a number, lowest first.
-- Assumes nothing.
use Rattle.std.specs.Prelude.{List, [], ◌∷◌, ℕ, zero, suc, ◌+◌, ◌*◌, ◌/◌, ◌%◌}
use Rattle.crc32.specs.Crc32.{bit_steps}

-- n values of f from i on
abbrev pub tabulate : (ℕ → ℕ) → ℕ → ℕ → List ℕ
tabulate f i zero = []
tabulate f i (suc n) = f i ∷ tabulate f (suc i) n

-- entry b of table k, at 256 * k + b: what 8 * (k + 1) bit steps make of the byte b
unfoldable pub entry_of : ℕ → ℕ
entry_of i = bit_steps (8 * (i / 256 + 1)) (i % 256)

-- eight tables of 256 entries in a row
unfoldable pub tables_of : List ℕ
tables_of = tabulate entry_of 0 2048

-- the number that a list of bytes stands for, lowest first
unfoldable pub le_of : List ℕ → ℕ
le_of [] = 0
le_of (b ∷ bs) = le_of bs * 256 + b
