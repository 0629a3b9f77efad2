-- `marks::highest_known`. The invariant: the higher of the best so far and the highest of those left is the highest.
use mathlib.Core.Path.{sym, ◌∙◌}
use Rattle.driver_list.proofs.Turns.{highest_turn, highest_end}
use native.Mathlib.Omega.{arith}
use Rattle.driver_list.proofs.marks.highest_known.Goals as goal

pub loop-i-init : goal.loop-i-init
loop-i-init c = omega arith

pub voter_mark-requires : goal.voter_mark-requires
voter_mark-requires c = c.requires.below _ c.loop-i-test.true

pub loop-i-preserved : goal.loop-i-preserved
loop-i-preserved c = c.loop-i.invariant ∙ highest_turn _ _ _ _ _ _ c.loop-i-test.true c.voter_mark.ensures c.max-best.ensures

pub returns : goal.returns
returns c = highest_end _ _ _ _ c.loop-i-test.false ∙ sym c.loop-i.invariant
