-- `copies::copy_all`: a turn is the copies of one replica more, and behind the list all are made.
use mathlib.Core.Path.{refl, sym, ap, ◌∙◌}
use Rattle.recovery.specs.Recovery.{Trail}
use Rattle.recovery.proofs.Played.{over_turn, over_end, all_copies_over}
use Rattle.recovery.proofs.StageCounts.{copies_to_count}
use Rattle.recovery.specs.Asked.{trail_of}
use native.Mathlib.Omega.{arith}
use borrow.Author.Rules.{rules}
use Rattle.driver_stages.proofs.copies.copy_all.Goals as goal

pub loop-to-init : goal.loop-to-init
loop-to-init c = (refl, omega arith, refl)

pub copy_to-r-requires : goal.copy_to-r-requires
copy_to-r-requires c =
    let p = c.requires in
    let named = p.server_bound.1 in record {
      server_bound = (p.server_bound.0, named.below _ c.loop-to-test.true);
      mark_bound = omega (arith, named.few, p.calls_bound, c.loop-to.invariant.1, c.loop-to-test.true);
    }

pub loop-to-preserved : goal.loop-to-preserved
loop-to-preserved c =
    let a = c.args in
    let l = c.loop-to in
    let e = c.copy_to-r.ensures in (
      search rules,
      omega (arith, ap (λ (t : Trail). t.count) e, copies_to_count _ _ _ _ _ (trail_of l.r l.media a.tables.now) e, l.invariant.1, c.requires.calls_bound),
      over_turn _ a.asked.now.listed.now l.to-index l.invariant.2 c.loop-to-test.true e,
    )

pub returns : goal.returns
returns c =
    let d = c.args.asked.now in
    let l = c.loop-to in
    over_end _ d.listed.now l.to-index l.invariant.2 c.loop-to-test.false ∙ sym (all_copies_over d.shape _ _ _ _ d.listed.now)
