-- `plan_send`: 16 behind `check_message`'s rows; the operation is the definition's as it stands.
use mathlib.Core.List.{[], ◌∷◌, ◌++◌}
use mathlib.Core.Path.{refl}
use Rattle.cluster.specs.Refusals.{message_rows, row}
use Rattle.checks.proofs.Behind.{behind}
use Rattle.plans.proofs.Planning.{refused, goes}
use Rattle.plans.proofs.plan_send.Goals as goal

pub returns-in_err-check_message : goal.returns-in_err-check_message
returns-in_err-check_message c =
    let a = c.args in
    refused _ _ (message_rows a.shape a.v a.i a.f a.given.now) _ c.from_residual.ensures c.in_err-check_message.ensures

pub returns-in_err-refuse_if : goal.returns-in_err-refuse_if
returns-in_err-refuse_if c =
    let a = c.args in
    refused _ _ (message_rows a.shape a.v a.i a.f a.given.now ++ (row 16 _ ∷ [])) [] c.from_residual-in_err-refuse_if.ensures
    (behind (message_rows a.shape a.v a.i a.f a.given.now) _ c.in_ok-check_message.ensures (rw (← c.holds-held.ensures) c.in_err-refuse_if.ensures))

pub returns : goal.returns
returns c =
    let a = c.args in
    goes _ (behind (message_rows a.shape a.v a.i a.f a.given.now) _ c.in_ok-check_message.ensures (rw (← c.holds-held.ensures) c.in_ok-refuse_if.ensures)) refl
