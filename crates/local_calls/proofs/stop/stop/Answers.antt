-- `stop::stop`: the admission's rows are its whole list, so a passed admission leaves nothing but the idle server in its place.
use mathlib.Core.Path.{refl}
use mathlib.Core.List.{[]}
use Rattle.cluster.specs.Refusals.{server_rows}
use Rattle.cluster.specs.Effects.{stop_effect}
use Rattle.cluster.specs.Step.{step}
use Rattle.checks.specs.Results.{state_of}
use Rattle.checks.proofs.Frame.{refused, goes_on, nothing_more, admitted}
use Rattle.local_calls.proofs.stop.stop.Goals as goal

pub returns-in-Err : goal.returns-in-Err
unfolding step
returns-in-Err c =
    let a = c.args in
    let x = state_of a.records a.media.now a.tables.now in
    refused a.records a.media.now a.tables.now _ (server_rows a.shape x a.server) [] c.in-Err.why (c.in-Err.ensures a.media.now a.tables.now refl refl) c.declined.ensures

pub settle-requires : goal.settle-requires
settle-requires c =
    let a = c.args in
    (admitted a.shape a.records a.media.now a.tables.now a.server [] (c.in_default.ensures a.media.now a.tables.now refl refl)).server

pub returns : goal.returns
unfolding step stop_effect
returns c =
    let a = c.args in
    let x = state_of a.records a.media.now a.tables.now in
    goes_on a.records a.media.now a.tables.now (stop_effect x a.server) (server_rows a.shape x a.server) [] (c.in_default.ensures a.media.now a.tables.now refl refl)
    (nothing_more x (rw (c.settle.ensures, c.idle.ensures)))
