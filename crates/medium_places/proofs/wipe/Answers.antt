-- `wipe`: the array of zeros is the definition's wiped place, which `set_place` writes.
use Rattle.storage.specs.Places.{wiped}
use Rattle.medium_places.proofs.wipe.Goals as goal

pub returns : goal.returns
unfolding wiped
returns c = c.set_place.ensures
