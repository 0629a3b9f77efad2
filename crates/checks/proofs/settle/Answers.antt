-- `checks::settle`: `put_server` ensures the records.
use Rattle.checks.proofs.settle.Goals as goal

pub returns : goal.returns
returns c = rw c.put_server.ensures
