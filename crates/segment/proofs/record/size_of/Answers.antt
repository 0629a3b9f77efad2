-- `record::size_of`: what a record has beside its data, and the data.
use native.Mathlib.Omega.{arith}
use Rattle.segment.specs.Records.{record_size}
use Rattle.segment.proofs.record.size_of.Goals as goal

pub returns : goal.returns
unfolding record_size
returns c = omega (arith, c.data_length.ensures)
