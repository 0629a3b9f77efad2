-- `quorum::reaches` meets its contract. The two tests are taken apart by the branches.
-- Assumes nothing.
use Rattle.quorum.proofs.reaches.Goals as goal

pub returns-then-strict : goal.returns-then-strict
returns-then-strict c = rw (c.if-known.true, c.if-strict.true)

pub returns-else-strict : goal.returns-else-strict
returns-else-strict c = rw (c.if-known.true, c.if-strict.false)
