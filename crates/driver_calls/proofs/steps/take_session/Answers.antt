-- `steps::take_session`: take, with the next fate (`with_fate`).
use mathlib.Core.List.{[]}
use Rattle.cluster.specs.declared.Call.TheVariants as call
use Rattle.checks.specs.Results.{input_of}
use Rattle.driver_calls.proofs.Called.{with_fate}
use Rattle.driver_calls.proofs.steps.take_session.Goals as goal

pub returns : goal.returns
returns c =
    let a = c.args in
    let d = a.asked.now in
    with_fate d.shape a.g _ _ a.media.now a.tables.now a.media.now a.tables.now c.count_call.ensures d.server d.listed.now d.fates.now d.given.now _ c.fate_at-f.ensures
    (λ f. input_of (call.Take d.server f) []) c.take-o.ensures
