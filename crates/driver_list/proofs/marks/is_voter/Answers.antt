-- `marks::is_voter`: what both callees say, one after the other.
use mathlib.Core.Path.{sym, ap, ◌∙◌}
use mathlib.Core.Bool.{not}
use Rattle.base.proofs.Tests.{and_yes, and_no}
use Rattle.driver_list.proofs.marks.is_voter.Goals as goal

pub returns-then-is_active : goal.returns-then-is_active
returns-then-is_active c = and_yes _ _ _ (sym c.is_active.ensures ∙ c.if-is_active.true) (ap not c.restored_at.ensures)

pub returns-else-is_active : goal.returns-else-is_active
returns-else-is_active c = c.if-is_active.false ∙ and_no _ _ (sym c.is_active.ensures ∙ c.if-is_active.false)
