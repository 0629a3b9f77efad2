-- `checks::admit_cluster`: 1 declines at once; a passed 1 bounds R, which `mark_above` needs, and leaves 2 as the only row.
use mathlib.Core.Path.{sym, ◌∙◌}
use mathlib.Core.List.{[], ◌∷◌}
use Rattle.cluster.specs.Refusals.{row}
use Rattle.checks.proofs.Behind.{behind, stopped, no}
use Rattle.shape_checks.proofs.Sizes.{in_replicas}
use Rattle.checks.proofs.admit_cluster.Goals as goal

pub returns-in_err-refuse_if : goal.returns-in_err-refuse_if
returns-in_err-refuse_if c = λ m t em et. rw (em, et, ← c.is_outside.ensures) (stopped _ _ (row 1 _ ∷ []) _ c.from_residual.ensures c.in_err-refuse_if.ensures)

pub mark_above-requires : goal.mark_above-requires
mark_above-requires c = in_replicas _ _ _ (sym c.is_outside.ensures ∙ no (row 1 _ ∷ []) c.in_ok-refuse_if.ensures 1)

pub returns : goal.returns
returns c = λ m t em et. rw (em, et, ← c.is_outside.ensures, ← c.mark_above.ensures) (behind (row 1 _ ∷ []) _ c.in_ok-refuse_if.ensures c.refuse_if-2.ensures)
