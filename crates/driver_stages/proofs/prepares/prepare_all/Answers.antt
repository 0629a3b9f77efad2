-- `prepares::prepare_all`: a turn is one prepare more, and behind the list all are made.
use mathlib.Core.Path.{refl, sym, ap, ◌∙◌}
use Rattle.recovery.specs.Recovery.{Trail}
use Rattle.recovery.proofs.Played.{over_turn, over_end, prepares_over}
use native.Mathlib.Omega.{arith}
use borrow.Author.Rules.{rules}
use Rattle.driver_stages.proofs.prepares.prepare_all.Goals as goal

pub loop-i-init : goal.loop-i-init
loop-i-init c = (refl, omega arith, refl)

pub loop-i-preserved : goal.loop-i-preserved
loop-i-preserved c =
    let l = c.loop-i in
    let e = c.prepare_replica-r.ensures in (
      search rules,
      omega (arith, ap (λ (t : Trail). t.count) e),
      over_turn _ c.args.asked.now.listed.now l.i-index l.invariant.2 c.loop-i-test.true e,
    )

pub returns : goal.returns
returns c =
    let d = c.args.asked.now in
    let l = c.loop-i in
    over_end _ d.listed.now l.i-index l.invariant.2 c.loop-i-test.false ∙ sym (prepares_over d.shape _ _ d.listed.now)
