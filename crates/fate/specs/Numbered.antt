-- A fate as the code meets it: what becomes of write k, and of writes that are numbered from k on.
-- The law `numbered` (proofs/Laws) says that this is what the fate makes of the list.
-- Assumes nothing.
use Rattle.std.specs.Prelude.{List, [], ◌∷◌, cond, ℕ, ◌+◌, ltb, eqb}
use Rattle.fate.specs.declared.Left.{Left}
use Rattle.fate.specs.declared.Left.TheVariants.{Old, New}
use Rattle.fate.specs.declared.Fate.{Fate}
use Rattle.fate.specs.declared.Fate.TheVariants.{Answered, Lost, AnswerLost, Cut}
use Rattle.fate.specs.Fates.{Write, leave}

-- what becomes of write k: a cut at w leaves those before it whole and those after it undone
unfoldable pub effect_of : Fate → ℕ → Left
effect_of Answered k = New
effect_of Lost k = Old
effect_of AnswerLost k = New
effect_of (Cut w left) k = cond (ltb k w) New (cond (eqb k w) left Old)

-- a medium after writes of which the first is write k
unfoldable pub after_from : ℕ → Fate → List ℕ → List Write → List ℕ → List ℕ
after_from k f given [] m = m
after_from k f given (x ∷ xs) m = after_from (k + 1) f given xs (leave (effect_of f k) given x m)
