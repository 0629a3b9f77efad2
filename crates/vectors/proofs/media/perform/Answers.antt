-- `media::perform`: an operation that has its place, on a medium that was read.
-- Assumes nothing.
use Rattle.vectors.proofs.media.perform.Goals as goal

pub perform-requires : goal.perform-requires
perform-requires c =
    let r = c.read_medium-r.ensures in record {
      as_read = r.1;
      has_place = rw r.0 (c.has_place.ensures c.if-not-has_place.false);
    }
