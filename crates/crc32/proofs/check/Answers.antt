-- `crc32::check`: the numbers compared are the CRC of the first k bytes and the four bytes behind them, as the definition has it.
-- Assumes nothing.
use mathlib.Core.Path.{ap, ap₂, ◌∙◌}
use lib.Dec.{eqb}
use lib.ListN.{length-take}
use Rattle.octets.specs.Octets.{be_of}
use Rattle.octets.proofs.Laws.{between_part}
use Rattle.crc32.specs.Crc32.{checked}
use native.Mathlib.Omega.{arith}
use Rattle.crc32.proofs.check.Goals as goal

pub slice_bounds-crc-end : goal.slice_bounds-crc-end
slice_bounds-crc-end c = simp length-take (omega arith)

pub returns : goal.returns
unfolding checked
returns c =
    let a = c.args in
    ap₂ eqb (c.from.ensures ∙ c.crc.ensures) (c.get_be.ensures.0 ∙ ap be_of (between_part a.k 4 a.s.now))
