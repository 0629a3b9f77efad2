-- `quorum::reach_count` meets its contract: each turn adds the bit of its replica's test.
-- Assumes nothing.
use mathlib.Core.Path.{ap, ◌∙◌}
use native.Mathlib.Omega.{arith}
use borrow.Author.Rules.{rules}
use Rattle.base.specs.Below.{bit, count}
use Rattle.base.proofs.Below.{count_step, count_room}
use Rattle.quorum.proofs.Laws.{bit_is}
use Rattle.quorum.proofs.reach_count.Goals as goal

pub loop-i-init : goal.loop-i-init
unfolding count
loop-i-init c = search rules

pub overflow_add-n : goal.overflow_add-n
overflow_add-n c = omega (arith, count_room _ _ _ _ c.loop-i.invariant (bit_is _ ∙ ap bit c.reaches.ensures))

pub loop-i-preserved : goal.loop-i-preserved
loop-i-preserved c = count_step _ _ _ _ c.loop-i.invariant (bit_is _ ∙ ap bit c.reaches.ensures)

pub returns : goal.returns
returns c = c.loop-i.invariant ∙ ap (count _) (omega arith)
