-- `copies::copy_to`: one that isn't known is passed over (`passed_over`), another brought up as far as it lacks (`brought_up`).
use Rattle.recovery.proofs.Played.{passed_over, brought_up}
use Rattle.recovery.specs.Asked.{trail_of}
use Rattle.driver_stages.proofs.copies.copy_to.Goals as goal

pub returns-then-not-is_active : goal.returns-then-not-is_active
returns-then-not-is_active c =
    let a = c.args in
    passed_over a.asked.now.shape _ _ _ _ (trail_of a.g a.media.now a.tables.now) c.is_active.ensures c.if-not-is_active.true

pub returns : goal.returns
returns c =
    let a = c.args in
    brought_up a.asked.now.shape _ _ _ _ (trail_of a.g a.media.now a.tables.now) c.is_active.ensures c.if-not-is_active.false c.lacks_of-turns.ensures c.copy_up.ensures
