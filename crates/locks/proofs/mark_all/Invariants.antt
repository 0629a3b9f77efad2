-- `locks::mark_all` meets its contract. The loop's invariant: writing the locks from the index on gives the result.
-- Assumes nothing.
use mathlib.Core.Path.{◌≡◌}
use lib.ListN.{length, drop}
use Rattle.locks.specs.Locks.{marked_all}
use Rattle.locks.proofs.mark_all.Given as goal

abbrev pub invariant-loop-k : goal.invariant-loop-k
invariant-loop-k l =
    (length l.table ≡ length l.initial.table) × (marked_all l.initial.table l.locks l.id ≡ marked_all l.table (drop l.k-index l.locks) l.id)
