-- `locks::first_held` meets its contract. The loop's invariant: the result is that of the locks from the index on.
-- Assumes nothing.
use mathlib.Core.Path.{◌≡◌}
use lib.ListN.{drop}
use Rattle.locks.specs.Locks.{first_held}
use Rattle.locks.proofs.first_held.Given as goal

abbrev pub invariant-loop-lock : goal.invariant-loop-lock
invariant-loop-lock l = first_held l.table l.locks l.client ≡ first_held l.table (drop l.lock-index l.locks) l.client
