-- `note`: the slot read is the current one, so the one slot write keeps its promise (`noted`).
use Rattle.storage.proofs.Writing.{noted}
use Rattle.operations.proofs.note.Goals as goal

pub returns : goal.returns
returns c =
    let a = c.args in
    noted a.read a.f a.given.now a.m.now c.requires.as_read a.low a.local _ c.set_slot.ensures
