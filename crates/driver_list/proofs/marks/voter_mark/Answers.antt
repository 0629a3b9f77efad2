-- `marks::voter_mark`: the branch decides the definition's test.
use mathlib.Core.Path.{sym, ◌∙◌}
use Rattle.driver_list.proofs.marks.voter_mark.Goals as goal

pub returns-then-is_voter : goal.returns-then-is_voter
returns-then-is_voter c = rw (sym c.is_voter.ensures ∙ c.if-is_voter.true)

pub returns-else-is_voter : goal.returns-else-is_voter
returns-else-is_voter c = rw (sym c.is_voter.ensures ∙ c.if-is_voter.false)
