-- `marks_fit`, by the turns of its loop: past R and below it (proofs/Bounded).
use mathlib.Core.Path.{refl, ap, ◌∙◌}
use native.Mathlib.Omega.{arith}
use Rattle.base.specs.Below.{all}
use Rattle.mark_checks.specs.Below.{below_fits}
use Rattle.mark_checks.proofs.Bounded.{bounded_none, bounded_step}
use Rattle.mark_checks.proofs.marks_fit.Goals as goal

pub loop-i-init : goal.loop-i-init
loop-i-init c = bounded_none _ _

pub loop-i-preserved : goal.loop-i-preserved
loop-i-preserved c = bounded_step _ _ _ _ _ c.loop-i.invariant refl

pub returns : goal.returns
unfolding below_fits
returns c = c.loop-i.invariant ∙ ap (all _) (omega arith)
