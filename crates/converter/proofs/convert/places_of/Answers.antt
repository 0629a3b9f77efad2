use Rattle.std.proofs.Common.{rules}
use Rattle.converter.specs.Convert.{places_of}
use Rattle.converter.proofs.convert.places_of.Goals as goal

pub returns : goal.returns
unfolding places_of
returns c = search rules
