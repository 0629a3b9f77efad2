-- `locks::estimate` meets its contract. The three reads and two comparisons are the definition's.
-- Assumes nothing.
use Rattle.locks.specs.Locks.{estimate_of}
use Rattle.locks.proofs.estimate.Goals as goal

pub returns : goal.returns
unfolding estimate_of
returns c =
    rw (c.min-2.ensures, c.min.ensures, c.lock_place-r.ensures.0, c.lock_place-q.ensures.0, c.lock_place-p.ensures.0)
