-- `crc32::load`: the four bytes one by one (`le_four`).
-- Assumes nothing.
use mathlib.Core.Path.{sym, ◌∙◌}
use native.Mathlib.Omega.{arith}
use Rattle.crc32.proofs.Words.{le_four}
use Rattle.crc32.proofs.load.Goals as goal

pub returns : goal.returns
returns c = omega arith ∙ sym (le_four c.args.at c.args.s.now c.requires)
