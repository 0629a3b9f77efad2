-- `place::data_length`: the number at the length's offset is the definition's `size_of`.
use Rattle.storage.specs.Places.{size_of}
use Rattle.place_reader.proofs.data_length.Goals as goal

pub returns : goal.returns
unfolding size_of
returns c = c.number.ensures
