-- `checks::refuse_if`: the verdict of the one row is by whether `bad` holds.
use Rattle.cluster.specs.Refusals.{first_of}
use Rattle.checks.proofs.refuse_if.Goals as goal

pub returns-then-bad : goal.returns-then-bad
unfolding first_of
returns-then-bad c = rw c.if-bad.true

pub returns-else-bad : goal.returns-else-bad
unfolding first_of
returns-else-bad c = rw c.if-bad.false
