-- `write_back`: each write is what its callee ensures, latest first.
use Rattle.storage.specs.Slots.{stored_slot}
use Rattle.restore_effect.proofs.write_back.Goals as goal

pub returns : goal.returns
unfolding stored_slot
returns c = rw (c.put-2.ensures, c.put.ensures, c.copy_from_slice.ensures.after, c.encode.ensures, c.held-x.ensures, c.choose.ensures)
