use Rattle.std.proofs.Common.{rules}
use Rattle.import_checks.specs.Refusals.{offsets_in}
use Rattle.import_checks.proofs.judge.offsets_in.Goals as goal

pub returns : goal.returns
unfolding offsets_in
returns c = search rules
