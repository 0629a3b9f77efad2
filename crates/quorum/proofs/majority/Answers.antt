-- `quorum::majority` meets its contract. A mark that is backed is compared; any other replica adds 0.
-- Assumes nothing.
use mathlib.Core.Path.{ap, ◌∙◌}
use native.Mathlib.Omega.{arith}
use borrow.Author.Rules.{rules}
use Rattle.base.specs.Below.{highest}
use Rattle.base.proofs.Below.{highest_step}
use Rattle.quorum.specs.Vote.{majority_mark}
use Rattle.quorum.proofs.Laws.{higher_backed, kept_few, kept_absent}
use Rattle.quorum.proofs.majority.Goals as goal
use Rattle.quorum.proofs.majority.Goals.{then-known-i+then-q-reach_count, else-known-i, else-known-i-via-then-known-i+else-q-reach_count, else-known-i-via-else-known-i}

pub loop-i-init : goal.loop-i-init
unfolding highest
loop-i-init c = search rules

pub loop-i-preserved : goal.loop-i-preserved
loop-i-preserved c =
    let q = c.quorum_of-q.ensures in
    highest_step _ _ _ _ c.loop-i.invariant
    (elim c.if-known-i.branch [
      | then-known-i+then-q-reach_count w ↦
          w.best-is ∙ w.max-best.ensures ∙ higher_backed _ _ _ _ _ _ _ q w.reach_count.ensures w.if-known-i.true w.if-q-reach_count.true
      | else-known-i w ↦
          w.best-is
          ∙ (elim w.else-known-i.branch [
            | else-known-i-via-then-known-i+else-q-reach_count x ↦ kept_few _ _ _ _ _ _ _ q x.reach_count.ensures x.if-known-i.true x.if-q-reach_count.false
            | else-known-i-via-else-known-i x ↦ kept_absent _ _ _ _ _ x.if-known-i.false
          ])
    ])

pub returns : goal.returns
unfolding majority_mark
returns c = c.loop-i.invariant ∙ ap (highest _) (omega arith)
