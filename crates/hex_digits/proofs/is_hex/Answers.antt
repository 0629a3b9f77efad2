-- `hex_digits::is_hex`: an even number of bytes, each of which is a digit (`hex_even`, `hex_odd`).
-- Assumes nothing.
use mathlib.Core.Path.{sym, ◌∙◌}
use borrow.Author.Tests.{ne_eqb}
use Rattle.hex_digits.proofs.Pairs.{hex_even, hex_odd}
use Rattle.hex_digits.proofs.is_hex.Goals as goal

pub returns-then-s-eq0 : goal.returns-then-s-eq0
returns-then-s-eq0 c = hex_even _ _ c.if-s-eq0.true c.all_digits.ensures

pub returns-else-s-eq0 : goal.returns-else-s-eq0
returns-else-s-eq0 c = ne_eqb _ _ c.if-s-eq0.false ∙ sym (hex_odd _ c.if-s-eq0.false)
