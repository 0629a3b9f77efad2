-- `steps::open_session`: open, with the next fate (`with_fate`).
use mathlib.Core.List.{[]}
use Rattle.cluster.specs.declared.Call.TheVariants as call
use Rattle.checks.specs.Results.{input_of}
use Rattle.driver_calls.proofs.Called.{with_fate}
use Rattle.driver_calls.proofs.steps.open_session.Goals as goal

pub returns : goal.returns
returns c =
    let a = c.args in
    let d = a.asked.now in
    with_fate d.shape a.g _ _ a.media.now a.tables.now a.media.now _ c.count_call.ensures d.server d.listed.now d.fates.now d.given.now _ c.fate_at-f.ensures
    (λ f. input_of (call.Open d.server f) []) c.open-o.ensures
