-- `check_message`: the row 7 behind the row 6.
use mathlib.Core.List.{[], ◌∷◌}
use Rattle.cluster.specs.Refusals.{row}
use Rattle.checks.proofs.Behind.{behind, stopped}
use Rattle.message_checks.proofs.check_message.Goals as goal

pub returns-in_err-refuse_if : goal.returns-in_err-refuse_if
returns-in_err-refuse_if c = rw (← c.unfit_fate.ensures) (stopped _ _ (row 6 _ ∷ []) _ c.from_residual.ensures c.in_err-refuse_if.ensures)

pub returns : goal.returns
returns c = rw (← c.unfit_fate.ensures, ← c.is_active.ensures) (behind (row 6 _ ∷ []) _ c.in_ok-refuse_if.ensures c.refuse_if-2.ensures)
