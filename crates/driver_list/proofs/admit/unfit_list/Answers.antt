-- `admit::unfit_list`: the list is empty just if it names none (`none_listed`).
use mathlib.Core.Path.{sym, ◌∙◌}
use Rattle.base.proofs.Tests.{or_yes, or_no}
use Rattle.driver_list.proofs.Declining.{none_listed}
use Rattle.driver_list.proofs.admit.unfit_list.Goals as goal

pub returns-then-repeats : goal.returns-then-repeats
returns-then-repeats c = c.if-repeats.true ∙ or_yes _ _ (sym c.repeats.ensures ∙ c.if-repeats.true)

pub returns-else-repeats : goal.returns-else-repeats
returns-else-repeats c = or_no _ _ _ (sym c.repeats.ensures ∙ c.if-repeats.false) (c.is_empty.ensures ∙ none_listed c.args.listed.now)
