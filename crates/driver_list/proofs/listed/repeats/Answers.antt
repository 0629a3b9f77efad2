-- `listed::repeats`. The invariant: the list repeats a number just if what is left of it does.
use mathlib.Core.Path.{refl, sym, ◌∙◌}
use Rattle.driver_list.proofs.Turns.{repeats_found, repeats_not, repeats_end}
use Rattle.driver_list.proofs.listed.repeats.Goals as goal

pub loop-k-init : goal.loop-k-init
loop-k-init c = refl

pub returns-then-contains : goal.returns-then-contains
returns-then-contains c = repeats_found _ _ _ c.contains.ensures c.loop-k-test.true c.if-contains.true ∙ sym c.loop-k.invariant

pub loop-k-preserved : goal.loop-k-preserved
loop-k-preserved c = c.loop-k.invariant ∙ repeats_not _ _ _ c.contains.ensures c.loop-k-test.true c.if-contains.false

pub returns : goal.returns
returns c = repeats_end _ _ c.loop-k-test.false ∙ sym c.loop-k.invariant
