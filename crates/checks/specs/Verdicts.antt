-- What the code's checks are in the definitions of the calls: verdicts and rows.
-- Assumes nothing.
use Rattle.std.specs.Prelude.{Bool, Result, Ok, Err}
use Rattle.cluster.specs.declared.Refusal.{Refusal}
use Rattle.cluster.specs.Replies.{number_of, values_of}
use Rattle.cluster.specs.Refusals.{Row, Verdict, pass, declined}

-- a check in the papers' numbers, whatever passes it
abbrev pub verdict_of : {T : Type 0} → Result T Refusal → Verdict
verdict_of (Ok _) = pass
verdict_of (Err why) = declined (number_of why) (values_of why)

abbrev pub row_of : Refusal → Bool → Row
row_of why bad = record { number = number_of why; holds = bad; values = values_of why }
