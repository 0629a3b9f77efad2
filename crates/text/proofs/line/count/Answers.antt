-- `line::count`: a field more than tabs.
-- Assumes nothing.
use Rattle.std.proofs.Common.{rules}
use Rattle.text.specs.Text.{field_count}
use Rattle.text.proofs.line.count.Goals as goal

pub returns : goal.returns
unfolding field_count
returns c = search rules
