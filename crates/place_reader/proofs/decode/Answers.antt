-- `place::decode`: the ID, the sequence and four numbers, each read at its offset, are the definition's fields (`cc`).
use Rattle.storage.specs.Places.{fields_in, id_of}
use Rattle.place_reader.proofs.decode.Goals as goal

pub returns : goal.returns
unfolding fields_in id_of
returns c = cc
