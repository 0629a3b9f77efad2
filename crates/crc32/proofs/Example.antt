-- Document 01, "Medium": "the ASCII string 123456789 gives hex CBF43926".
-- Assumes nothing.
use mathlib.Core.Path.{◌≡◌, refl}
use mathlib.Core.List.{[], ◌∷◌}
use Rattle.crc32.specs.Crc32.{bit_step, bit_steps, crc_from, crc_of}

pub check_value : crc_of (49 ∷ 50 ∷ 51 ∷ 52 ∷ 53 ∷ 54 ∷ 55 ∷ 56 ∷ 57 ∷ []) ≡ 0xcbf4_3926
unfolding crc_of crc_from bit_steps bit_step
check_value = refl
