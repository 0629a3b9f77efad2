-- `octets::all_zero`. The invariant: ok, and whether the bytes that are still to come are zeros, decide.
use mathlib.Core.Path.{refl, sym, ◌∙◌}
use Rattle.octets.proofs.Lists.{all_zero_next, all_zero_end}
use Rattle.octets.proofs.all_zero.Goals as goal

pub loop-b-preserved : goal.loop-b-preserved
loop-b-preserved c =
    let l = c.loop-b in
    l.invariant ∙ all_zero_next c.args.s.now l.b-index l.ok _ c.loop-b-test.true refl

pub returns : goal.returns
returns c = sym (c.loop-b.invariant ∙ all_zero_end _ c.loop-b.b-index _ c.loop-b-test.false)
