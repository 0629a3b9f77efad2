-- `take::take`: `judge` has the whole list; once it passes, there is such a server and `taken` ensures the effect.
use mathlib.Core.Path.{refl}
use mathlib.Core.List.{[], ◌++◌}
use Rattle.cluster.specs.Refusals.{only_idle, phase_rows}
use Rattle.cluster.specs.Effects.{take_effect}
use Rattle.cluster.specs.Step.{step}
use Rattle.checks.specs.Results.{state_of}
use Rattle.checks.proofs.Frame.{refused, goes_on, nothing_more, admitted}
use Rattle.register_calls.specs.Judged.{take_rows}
use Rattle.register_calls.proofs.take.take.Goals as goal

pub settle-requires : goal.settle-requires
settle-requires c =
    let a = c.args in
    (admitted a.shape a.records a.media.now a.tables.now a.server _ (c.in-Ok.ensures a.media.now a.tables.now refl refl)).server

pub returns-in-Err : goal.returns-in-Err
unfolding step
returns-in-Err c =
    let a = c.args in
    let x = state_of a.records a.media.now a.tables.now in
    let rows = phase_rows a.shape x a.server only_idle ++ take_rows a.records.register a.fate in
    refused a.records a.media.now a.tables.now _ rows [] c.in-Err.why (c.in-Err.ensures a.media.now a.tables.now refl refl) c.declined.ensures

pub returns-in-Ok : goal.returns-in-Ok
unfolding step
returns-in-Ok c =
    let a = c.args in
    let x = state_of a.records a.media.now a.tables.now in
    let rows = phase_rows a.shape x a.server only_idle ++ take_rows a.records.register a.fate in
    goes_on a.records a.media.now a.tables.now (take_effect x a.server a.fate) rows [] (c.in-Ok.ensures a.media.now a.tables.now refl refl)
    (nothing_more x (rw c.settle.ensures (c.taken.ensures a.records a.server a.media.now a.tables.now refl)))
