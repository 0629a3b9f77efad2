-- `marks_after`: each turn puts one mark in its place (`up_to_step`).
use Rattle.base.specs.Below.{up_to}
use Rattle.base.proofs.Below.{up_to_step}
use borrow.Author.Rules.{rules}
use Rattle.open_effect.proofs.marks_after.Goals as goal
use Rattle.open_effect.proofs.marks_after.Goals.{then-b-i, else-b-i}

pub loop-i-init : goal.loop-i-init
unfolding up_to
loop-i-init c = search rules

pub loop-i-preserved : goal.loop-i-preserved
loop-i-preserved c =
    up_to_step _ _ _ _ _ c.loop-i.invariant (elim c.if-b-i.branch [ then-b-i w ↦ rw (w.marks-is, w.if-b-i.true) | else-b-i w ↦ rw (w.marks-is, w.if-b-i.false) ])
