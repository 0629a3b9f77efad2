-- `crc32::single`. The invariant: the bytes that are still to come, from the register as it is, give the result.
-- Assumes nothing.
use mathlib.Core.Path.{◌≡◌}
use lib.ListN.{drop}
use Rattle.crc32.specs.Crc32.{crc_from}
use Rattle.crc32.proofs.single.Given as goal

abbrev pub invariant-loop-b : goal.invariant-loop-b
invariant-loop-b l = crc_from l.before l.s ≡ crc_from l.r (drop l.b-index l.s)
