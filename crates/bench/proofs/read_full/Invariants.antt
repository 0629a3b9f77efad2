-- `read_full`: what was read fits.
use Rattle.std.proofs.Common.{◌≤◌, length}
use Rattle.bench.proofs.read_full.Given as goal

abbrev pub invariant-loop : goal.invariant-loop
invariant-loop g l = l.n ≤ length l.room
