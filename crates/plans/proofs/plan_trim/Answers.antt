-- `plan_trim`: 8 and 16 behind `check_message`'s rows; once 8 passed, the mark to trim to is the vote's.
use mathlib.Core.Path.{ap}
use mathlib.Core.List.{[], ◌∷◌, ◌++◌}
use Rattle.cluster.specs.Refusals.{message_rows, row}
use Rattle.checks.proofs.Behind.{behind}
use Rattle.storage.specs.declared.operation.Operation.TheVariants as op
use Rattle.plans.proofs.Planning.{refused, goes, undecided_row, decided_row, mark_is, trim_row}
use Rattle.plans.proofs.plan_trim.Goals as goal

pub returns-in_err-check_message : goal.returns-in_err-check_message
returns-in_err-check_message c =
    let a = c.args in
    refused _ _ (message_rows a.shape a.v a.i a.f a.given.now) _ c.from_residual.ensures c.in_err-check_message.ensures

pub returns-in_err-d : goal.returns-in_err-d
returns-in_err-d c =
    let a = c.args in
    let ws = message_rows a.shape a.v a.i a.f a.given.now in
    let eight = undecided_row a.shape.replicas a.v c.vote_among.ensures _ c.in_err-d.ensures.ok_part c.in_err-d.ensures.value in
    refused _ _ (ws ++ (row 8 _ ∷ [])) _ c.from_residual-in_err-d.ensures (behind ws _ c.in_ok-check_message.ensures eight)

pub returns-in_err-refuse_if : goal.returns-in_err-refuse_if
returns-in_err-refuse_if c =
    let a = c.args in
    let ws = message_rows a.shape a.v a.i a.f a.given.now in
    let eight = decided_row a.shape.replicas a.v c.vote_among.ensures c.in_ok-d.ensures.ok_part in
    let e = trim_row a.shape.replicas a.v c.vote_among.ensures c.in_ok-d.ensures.ok_part a.i in
    refused _ _ (ws ++ (row 8 _ ∷ row 16 _ ∷ [])) [] c.from_residual-in_err-refuse_if.ensures
    (behind ws _ c.in_ok-check_message.ensures (behind (row 8 _ ∷ []) _ eight (rw (← e) c.in_err-refuse_if.ensures)))

pub returns : goal.returns
returns c =
    let a = c.args in
    let ws = message_rows a.shape a.v a.i a.f a.given.now in
    let eight = decided_row a.shape.replicas a.v c.vote_among.ensures c.in_ok-d.ensures.ok_part in
    let e = trim_row a.shape.replicas a.v c.vote_among.ensures c.in_ok-d.ensures.ok_part a.i in
    goes _ (behind ws _ c.in_ok-check_message.ensures (behind (row 8 _ ∷ []) _ eight (rw (← e) c.in_ok-refuse_if.ensures)))
    (ap op.Trim (mark_is a.shape.replicas a.v c.vote_among.ensures c.in_ok-d.ensures.ok_part))
