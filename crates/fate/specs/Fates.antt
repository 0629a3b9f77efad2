-- What a message's fate makes of the writes that it was to make. Document 01, "Fates".
-- Assumes nothing.
use Rattle.std.specs.Prelude.{List, [], ◌∷◌, ℕ, zero, suc, length, take}
use Rattle.octets.specs.Octets.{write_at}
use Rattle.fate.specs.declared.Left.{Left}
use Rattle.fate.specs.declared.Left.TheVariants.{Old, New, Torn}
use Rattle.fate.specs.declared.Fate.{Fate}
use Rattle.fate.specs.declared.Fate.TheVariants.{Answered, Lost, AnswerLost, Cut}

-- bytes to be written at an offset of a medium: one slot or one place
pub record Write : Type 0 where
  pub at : ℕ
  pub bytes : List ℕ

-- all writes of a list, one after the other
unfoldable pub all_of : List Write → List ℕ → List ℕ
all_of [] m = m
all_of (x ∷ xs) m = all_of xs (write_at x.at x.bytes m)

-- "A cut write leaves the slot or place old, new, or holding given bytes"; "Given bytes are 64; a slot takes the first 32"
-- (as many as a place has, 72 since document 02, No. 7).
unfoldable pub leave : Left → List ℕ → Write → List ℕ → List ℕ
leave Old given x m = m
leave New given x m = write_at x.at x.bytes m
leave Torn given x m = write_at x.at (take (length x.bytes) given) m

-- "cut at write w (from 1)": the writes before it are whole; "later writes don't happen"; "If w exceeds the writes made, all happen".
-- (A cut at write 0 is declined, number 6; here it makes no write.)
unfoldable pub cut_at : ℕ → Left → List ℕ → List Write → List ℕ → List ℕ
cut_at w left given [] m = m
cut_at zero left given (x ∷ xs) m = m
cut_at (suc zero) left given (x ∷ xs) m = leave left given x m
cut_at (suc (suc w)) left given (x ∷ xs) m = cut_at (suc w) left given xs (write_at x.at x.bytes m)

-- "Each message to a replica .. has a fate: answered; lost before it arrives; done with the answer lost; or .. cut at write w"
unfoldable pub after : Fate → List ℕ → List Write → List ℕ → List ℕ
after Answered given xs m = all_of xs m
after Lost given xs m = m
after AnswerLost given xs m = all_of xs m
after (Cut w left) given xs m = cut_at w left given xs m
