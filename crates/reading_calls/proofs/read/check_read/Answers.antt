-- `read::check_read`: the test for 16 behind `check_message`'s rows, 6 and 7.
use Rattle.cluster.specs.Refusals.{message_rows}
use Rattle.checks.proofs.Behind.{behind, stopped}
use Rattle.reading_calls.proofs.read.check_read.Goals as goal

pub returns-in_err-check_message : goal.returns-in_err-check_message
returns-in_err-check_message c =
    let a = c.args in
    stopped _ _ (message_rows a.shape a.v a.i a.f a.given.now) _ c.from_residual.ensures c.in_err-check_message.ensures

pub returns : goal.returns
returns c =
    let a = c.args in
    rw (← c.nothing_to_read.ensures) (behind (message_rows a.shape a.v a.i a.f a.given.now) _ c.in_ok-check_message.ensures c.refuse_if.ensures)
