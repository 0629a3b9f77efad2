-- `number::decimal`. The invariant: the digits still to come, behind the number so far, give the whole.
-- Assumes nothing.
use mathlib.Core.Path.{◌≡◌}
use lib.ListN.{drop}
use Rattle.std.specs.Prelude.{Some}
use Rattle.text.specs.Text.{with_digits}
use Rattle.text.proofs.number.decimal.Given as goal

abbrev pub invariant-loop-b : goal.invariant-loop-b
invariant-loop-b l = with_digits (Some 0) l.s ≡ with_digits (Some l.n) (drop l.b-index l.s)
