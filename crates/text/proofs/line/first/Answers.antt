-- `line::first`: the first tab bounds it.
-- Assumes nothing.
use Rattle.text.proofs.Fields.{found, first_is}
use Rattle.text.proofs.line.first.Goals as goal

pub returns : goal.returns
returns c = first_is _ _ (found _ _ c.find-i.ensures.0)
