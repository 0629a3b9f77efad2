-- `crc32::crc`. The invariant: the bytes from an offset on, eight for each word behind, from the register as it is, give the result.
-- Assumes nothing.
use mathlib.Core.Path.{◌≡◌}
use Prim.Native.Nat.{◌*◌}
use lib.ListN.{drop}
use Rattle.crc32.specs.Crc32.{crc_from}
use Rattle.crc32.proofs.crc.Given as goal

abbrev pub invariant-loop-word : goal.invariant-loop-word
invariant-loop-word l = (l.at ≡ 8 * l._word) × (crc_from 0xffff_ffff l.s ≡ crc_from l.r (drop l.at l.s))
