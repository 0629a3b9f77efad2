-- `crc32::seal`: `put_be` writes what `crc` ensures of the first k bytes.
-- Assumes nothing.
use lib.ListN.{length-take}
use native.Mathlib.Omega.{arith}
use Rattle.crc32.proofs.seal.Goals as goal

pub slice_bounds-crc-end-2 : goal.slice_bounds-crc-end-2
slice_bounds-crc-end-2 c = simp length-take (omega arith)

pub returns : goal.returns
returns c = cc
