-- `marks::first_at`. The invariant: the first at the mark is the first of those left.
use mathlib.Core.Path.{refl, sym, ◌∙◌}
use Rattle.driver_list.proofs.Turns.{first_found, first_not, first_end}
use Rattle.driver_list.proofs.marks.first_at.Goals as goal

pub loop-i-init : goal.loop-i-init
loop-i-init c = refl

pub is_at-requires : goal.is_at-requires
is_at-requires c = c.requires.below _ c.loop-i-test.true

pub returns-then-is_at : goal.returns-then-is_at
returns-then-is_at c = first_found _ _ _ _ _ c.is_at.ensures c.loop-i-test.true c.if-is_at.true ∙ sym c.loop-i.invariant

pub loop-i-preserved : goal.loop-i-preserved
loop-i-preserved c = c.loop-i.invariant ∙ first_not _ _ _ _ _ c.is_at.ensures c.loop-i-test.true c.if-is_at.false

pub returns : goal.returns
returns c = first_end _ _ _ _ c.loop-i-test.false ∙ sym c.loop-i.invariant
