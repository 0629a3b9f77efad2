-- `line::after`. The invariant: what is sought is as many tabs further in what is left of the line.
-- Assumes nothing.
use mathlib.Core.Path.{sym, ap, ◌∙◌}
use Prim.Native.Nat.{◌+◌, ◌-◌}
use Rattle.text.specs.Text.{after_of}
use Rattle.text.proofs.Fields.{after_next, after_end}
use Rattle.text.proofs.line.after.Goals as goal

pub loop-i-preserved : goal.loop-i-preserved
loop-i-preserved c =
    let l = c.loop-i in
    l.invariant ∙ after_next c.args.k l._i _ c.loop-i-test.true ∙ ap (after_of (c.args.k - (l._i + 1))) (sym c.behind-s.ensures)

pub returns : goal.returns
returns c = sym (c.loop-i.invariant ∙ after_end c.args.k c.loop-i._i _ c.loop-i-test.false)
