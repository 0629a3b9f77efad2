-- `voters::others`: each turn writes its replica's flag.
-- Assumes nothing.
use mathlib.Core.Path.{ap, ◌∙◌}
use mathlib.Core.Bool.{not}
use Rattle.base.specs.Below.{up_to}
use Rattle.base.proofs.Tests.{and_yes, and_no}
use Rattle.base.proofs.Below.{up_to_step}
use native.Mathlib.Omega.{arith}
use borrow.Author.Rules.{rules}
use Rattle.voters.proofs.others.Goals as goal
use Rattle.voters.proofs.others.Goals.{then-flags-i, else-flags-i}

pub loop-i-init : goal.loop-i-init
unfolding up_to
loop-i-init c = search rules

pub loop-i-preserved : goal.loop-i-preserved
loop-i-preserved c =
    up_to_step _ _ _ _ _ c.loop-i.invariant
    (elim c.if-flags-i.branch [
      | then-flags-i w ↦ and_yes _ _ _ w.if-flags-i.true (w.out-is ∙ ap not w.is_restored.ensures)
      | else-flags-i w ↦ w.out-is ∙ w.if-flags-i.false ∙ and_no _ _ w.if-flags-i.false
    ])

pub returns : goal.returns
returns c = c.loop-i.invariant ∙ ap (up_to _ _) (omega arith)
