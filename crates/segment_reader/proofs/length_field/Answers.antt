-- `place::length_field`: the last of a place's numbers.
use Rattle.storage.specs.Places.{size_of}
use Rattle.segment_reader.proofs.length_field.Goals as goal

pub returns : goal.returns
unfolding size_of
returns c = c.get_be.ensures.0
