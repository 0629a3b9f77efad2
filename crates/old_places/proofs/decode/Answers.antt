-- `old::decode`: the ID and five numbers, each read at its offset, are the definition's fields (`cc`).
use Rattle.old_places.specs.Old.{old_fields}
use Rattle.old_places.proofs.decode.Goals as goal

pub returns : goal.returns
unfolding old_fields
returns c = cc
