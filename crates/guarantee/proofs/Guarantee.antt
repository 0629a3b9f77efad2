-- The theorem of condition 3.
-- Assumes nothing.
use Rattle.quorum.specs.Vote.{quorum}
use Rattle.protocol.proofs.Guarantee.{safe}
use Rattle.guarantee.specs.Guarantee.{Guarantee}
use Rattle.guarantee.proofs.Facts.{quorate}
use Rattle.guarantee.proofs.Along.{from_fresh}
use Rattle.guarantee.proofs.Conclusions.{kept}

pub guarantee : Guarantee
guarantee h range es a =
    let q = quorate h range in
    let w = from_fresh h range es a in
    kept h _ _ w.state w.tied.sim w.inv (safe h.replicas (quorum h.replicas) q.0 q.1 w.steps)
