-- `start`: records, media and tables, each fresh.
-- Assumes nothing.
use Rattle.cluster.specs.State.{fresh}
use Rattle.fresh.proofs.start.Goals as goal

pub returns : goal.returns
unfolding fresh
returns c = rw (c.records.ensures, c.media.ensures, c.fill.ensures.after (λ y e. e), c.requires.tables_len)
