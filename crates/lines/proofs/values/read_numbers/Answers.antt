-- `values::read_numbers`. The invariant: the numbers left, written behind those written, give the whole.
-- Assumes nothing.
use mathlib.Core.Path.{◌≡◌, sym, ◌∙◌}
use lib.ListN.{length-set}
use native.Mathlib.Omega.{arith}
use Rattle.std.specs.Prelude.{unwrap_or}
use Rattle.text.specs.Text.{number_of, first_of}
use Rattle.lines.proofs.Numbers.{numbers_write, numbers_read}
use Rattle.lines.proofs.values.read_numbers.Goals as goal

pub loop-i-preserved : goal.loop-i-preserved
loop-i-preserved c =
    let l = c.loop-i in
    let h = c.loop-i-test.true in
    let v : c.unwrap_or.result ≡ unwrap_or (number_of (first_of l.t.now)) 0 = grind arith in
    (simp length-set (omega arith), l.invariant.1 ∙ numbers_write c.args.n l.i _ l.out _ _ h (omega arith) v c.behind-t.ensures)

pub returns : goal.returns
returns c = sym (c.loop-i.invariant.1 ∙ numbers_read _ _ _ _ c.loop-i-test.false)
