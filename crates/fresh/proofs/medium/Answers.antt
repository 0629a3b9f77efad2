-- `medium`: two slots, then zeros.
-- Assumes nothing.
use Rattle.fresh.proofs.Making.{made}
use Rattle.fresh.proofs.medium.Goals as goal

pub returns : goal.returns
returns c =
    let a = c.args in
    made a.places a.m.now _ _ _ c.requires.m_len c.encode.ensures c.encode-2.ensures c.clear.ensures
