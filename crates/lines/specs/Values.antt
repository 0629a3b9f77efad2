-- What fields of a line stand for: fates and locks; data are `bytes_of` of text. Document 01, "Script program"; a number is `number_of` of text.
-- Assumes nothing.
use Rattle.std.specs.Prelude.{Option, Some, None, is_some, unwrap_or, List, [], ◌∷◌, Bool, true, cond, ◌&&◌, ℕ, zero, suc, eqb}
use Rattle.fate.specs.declared.Fate.{Fate}
use Rattle.fate.specs.declared.Fate.TheVariants.{Answered, Lost, AnswerLost}
use Rattle.text.specs.Text.{first_of, behind_of, number_of}

-- "Fates here: 0 answered, 1 lost, 2 answer lost"; another fate fits no form
abbrev pub fate_of : Option ℕ → Option Fate
fate_of None = None
fate_of (Some v) = cond (eqb v 0) (Some Answered) (cond (eqb v 1) (Some Lost) (cond (eqb v 2) (Some AnswerLost) None))

-- ---- "and then each lock": the first n fields of s as numbers

-- each is one
unfoldable pub all_numbers : ℕ → List ℕ → Bool
all_numbers zero s = true
all_numbers (suc n) s = is_some (number_of (first_of s)) && all_numbers n (behind_of s)

-- their values
unfoldable pub numbers_of : ℕ → List ℕ → List ℕ
numbers_of zero s = []
numbers_of (suc n) s = unwrap_or (number_of (first_of s)) 0 ∷ numbers_of n (behind_of s)
