-- `steps::prepare_replica`: prepare, with the next fate and the bytes beside it (`with_both`).
use mathlib.Core.List.{List}
use Prim.Native.Nat.{ℕ}
use Rattle.fate.specs.declared.Fate.{Fate}
use Rattle.cluster.specs.declared.Call.TheVariants as call
use Rattle.checks.specs.Results.{input_of}
use Rattle.driver_calls.proofs.Called.{with_both}
use Rattle.driver_calls.proofs.steps.prepare_replica.Goals as goal

pub returns : goal.returns
returns c =
    let a = c.args in
    let d = a.asked.now in
    with_both d.shape a.g _ _ a.media.now a.tables.now _ a.tables.now c.count_call.ensures d.server d.listed.now d.fates.now d.given.now _ c.fate_at-f.ensures
    (λ (f : Fate) (b : List ℕ). input_of (call.Prepare d.server a.replica f) b) _ c.given_at-b.ensures c.prepare-o.ensures
