-- `answer::nothing`: the records of a fresh cluster.
-- Assumes nothing.
use mathlib.Core.Path.{ap}
use Rattle.cluster.specs.declared.Records.{Records}
use Rattle.cluster.specs.State.{fresh}
use Rattle.answers.specs.declared.answer.Held.{Held}
use Rattle.answers.specs.Answers.{nothing}
use Rattle.answers.proofs.answer.nothing.Goals as goal

with_records : Records → Held
with_records r = record { shape = record { replicas = 0; places = 0; interval = 0 }; records = r }

pub returns : goal.returns
unfolding fresh nothing with_records
returns c = ap with_records c.records.ensures
