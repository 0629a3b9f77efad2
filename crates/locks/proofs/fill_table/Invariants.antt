-- `locks::fill_table` meets its contract. The loop's invariant: the rows below i hold the mark.
-- Assumes nothing.
use Rattle.std.proofs.Common.{◌≡◌, ◌*◌, replicate, take}
use Rattle.locks.proofs.fill_table.Given as goal

abbrev pub invariant-loop-i : goal.invariant-loop-i
invariant-loop-i l = take (256 * l.i) l.table ≡ replicate (256 * l.i) l.mark
