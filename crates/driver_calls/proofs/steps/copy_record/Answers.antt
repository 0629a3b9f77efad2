-- `steps::copy_record`: copy, with the next fate and the bytes beside it (`with_both`).
use mathlib.Core.List.{List}
use Prim.Native.Nat.{ℕ}
use Rattle.fate.specs.declared.Fate.{Fate}
use Rattle.cluster.specs.declared.Call.TheVariants as call
use Rattle.checks.specs.Results.{input_of}
use Rattle.driver_calls.proofs.Called.{with_both}
use Rattle.driver_calls.proofs.steps.copy_record.Goals as goal

pub returns : goal.returns
returns c =
    let a = c.args in
    let d = a.asked.now in
    with_both d.shape a.g _ _ a.media.now a.tables.now _ a.tables.now c.count_call.ensures d.server d.listed.now d.fates.now d.given.now _ c.fate_at-f.ensures
    (λ (f : Fate) (b : List ℕ). input_of (call.Copy d.server a.from a.to f) b) _ c.given_at-b.ensures c.copy-o.ensures
