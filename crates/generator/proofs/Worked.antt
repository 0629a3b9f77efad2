-- A list worked out: seed 31, R = 3, N = 4, two calls; and from seed 2718281828 the first issue, with its header and byte.
-- Assumes nothing.
use Rattle.std.proofs.Common.{◌≡◌, [], ◌∷◌, refl}
use Rattle.fate.specs.declared.Fate.TheVariants.{Lost, AnswerLost}
use Rattle.cluster.specs.declared.Call.TheVariants as call
use Rattle.lines.specs.Forms.{asked, request_of}
use Rattle.generator.specs.Load.{next, after, draw, fate_of, call_of, calls_of}

-- "trim 3 1 1", "copy 0 0 1 2"
pub two_calls : calls_of 3 4 2 31 ≡ asked (call.Trim 3 1 Lost) [] [] ∷ asked (call.Copy 0 0 1 AnswerLost) [] [] ∷ []
unfolding next after draw fate_of call_of calls_of
two_calls = refl

-- "issue 0 3 0 31 F6"
pub an_issue : calls_of 3 4 1 2718281828 ≡ asked (call.Issue 0 (request_of 3 0 31)) (0xF6 ∷ []) [] ∷ []
unfolding next after draw fate_of call_of calls_of
an_issue = refl
