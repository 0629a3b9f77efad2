-- `values::all_numbers`. The invariant: whether the fields left are numbers decides.
-- Assumes nothing.
use mathlib.Core.Path.{◌≡◌, sym, ap, ◌∙◌}
use mathlib.Core.Bool.{true, false}
use Prim.Native.Nat.{◌+◌, ◌-◌}
use Rattle.std.proofs.Common.{arith}
use Rattle.std.specs.Prelude.{is_some}
use Rattle.text.specs.Text.{number_of, first_of}
use Rattle.lines.specs.Values.{all_numbers}
use Rattle.lines.proofs.Numbers.{all_stop, all_next, all_end}
use Rattle.lines.proofs.values.all_numbers.Goals as goal

pub returns-then-is_none : goal.returns-then-is_none
returns-then-is_none c =
    let l = c.loop-i in
    let e : is_some (number_of (first_of l.t.now)) ≡ false = grind arith in
    sym (l.invariant ∙ all_stop c.args.n l._i _ c.loop-i-test.true e)

pub loop-i-preserved : goal.loop-i-preserved
loop-i-preserved c =
    let l = c.loop-i in
    let e : is_some (number_of (first_of l.t.now)) ≡ true = grind arith in
    l.invariant ∙ all_next c.args.n l._i _ c.loop-i-test.true e ∙ ap (all_numbers (c.args.n - (l._i + 1))) (sym c.behind-t.ensures)

pub returns : goal.returns
returns c = sym (c.loop-i.invariant ∙ all_end c.args.n c.loop-i._i _ c.loop-i-test.false)
