-- `records::place`: the length of a valid place's data is within its limit.
-- Assumes nothing.
use mathlib.Core.Path.{sym, ◌∙◌}
use Rattle.storage.proofs.PlaceCases.{valid_tests}
use Rattle.vectors.proofs.records.place.Goals as goal

pub tell-requires-clause-b_bound : goal.tell-requires-clause-b_bound
tell-requires-clause-b_bound g c =
    let v = valid_tests _ _ (sym c.valid.ensures ∙ c.if-valid.true) in v.short
