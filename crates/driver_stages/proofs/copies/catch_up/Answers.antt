-- `copies::catch_up`: the mark and the source that are found are those of the definition (`caught_up_is`).
use Rattle.recovery.proofs.Played.{caught_up_is}
use Rattle.recovery.specs.Asked.{trail_of}
use Rattle.driver_stages.proofs.copies.catch_up.Goals as goal

pub copy_all-requires : goal.copy_all-requires
copy_all-requires c =
    let p = c.requires in record {
      server_bound = p.server_bound;
      calls_bound = (p.calls_bound.0, rw c.highest_known-mark.ensures p.calls_bound.1);
    }

pub returns : goal.returns
returns c =
    let a = c.args in
    caught_up_is a.asked.now.shape _ (trail_of a.g a.media.now a.tables.now) c.highest_known-mark.ensures c.first_at-from.ensures c.copy_all.ensures
