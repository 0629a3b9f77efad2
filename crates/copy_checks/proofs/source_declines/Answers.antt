-- `source_declines`: `unfit` says of the source's medium whether it declines; it has a medium's size (`medium_length`).
use Rattle.delivery.proofs.Hearing.{medium_length}
use Rattle.copy_checks.proofs.source_declines.Goals as goal

pub unfit-requires : goal.unfit-requires
unfit-requires c =
    let a = c.args in
    let p = c.requires in
    rw c.medium_of-medium.ensures (record { medium = record { few = p.named.few; size = medium_length a.shape.places a.from a.media.now p.named.within } })

pub returns : goal.returns
returns c = rw (← c.medium_of-medium.ensures) c.unfit.ensures
