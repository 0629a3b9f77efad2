-- `locks::mark_lock` meets its contract. The three writes are the definition's.
-- Assumes nothing.
use Rattle.locks.specs.Locks.{marked_at}
use Rattle.locks.proofs.mark_lock.Goals as goal

pub returns : goal.returns
unfolding marked_at
returns c = rw (c.lock_place-r.ensures.0, c.lock_place-q.ensures.0, c.lock_place-p.ensures.0)
