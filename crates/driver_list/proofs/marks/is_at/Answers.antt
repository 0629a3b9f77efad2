-- `marks::is_at`: whether the replica votes decides whether its mark is looked at, as in the definition's `&&`.
use mathlib.Core.Path.{sym, ◌∙◌}
use Rattle.base.proofs.Tests.{and_no}
use Rattle.driver_list.proofs.marks.is_at.Goals as goal

pub returns-then-is_voter : goal.returns-then-is_voter
returns-then-is_voter c = rw (sym c.is_voter.ensures ∙ c.if-is_voter.true)

pub returns-else-is_voter : goal.returns-else-is_voter
returns-else-is_voter c = c.if-is_voter.false ∙ and_no _ _ (sym c.is_voter.ensures ∙ c.if-is_voter.false)
