-- `voters::active_flags`: each turn writes its replica's flag.
-- Assumes nothing.
use mathlib.Core.Path.{ap, ◌∙◌}
use Rattle.base.specs.Below.{up_to}
use Rattle.base.proofs.Tests.{and_yes, and_no}
use Rattle.base.proofs.Below.{up_to_step}
use native.Mathlib.Omega.{arith}
use borrow.Author.Rules.{rules}
use Rattle.voters.proofs.active_flags.Goals as goal
use Rattle.voters.proofs.active_flags.Goals.{then-known-i, else-known-i}

pub loop-i-init : goal.loop-i-init
unfolding up_to
loop-i-init c = search rules

pub loop-i-preserved : goal.loop-i-preserved
loop-i-preserved c =
    up_to_step _ _ _ _ _ c.loop-i.invariant
    (elim c.if-known-i.branch [
      | then-known-i w ↦ and_yes _ _ _ w.if-known-i.true w.flags-is
      | else-known-i w ↦ w.flags-is ∙ w.if-known-i.false ∙ and_no _ _ w.if-known-i.false
    ])

pub returns : goal.returns
returns c = c.loop-i.invariant ∙ ap (up_to _ _) (omega arith)
