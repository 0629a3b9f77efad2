-- `restore`: `judge` ensures the whole list; once it passes, `put_back` ensures the effect.
use mathlib.Core.List.{[]}
use Rattle.cluster.specs.Refusals.{rows_of}
use Rattle.cluster.specs.Effects.{restore_effect}
use Rattle.cluster.specs.Step.{step}
use Rattle.checks.specs.Results.{state_of, restore_of}
use Rattle.checks.proofs.Frame.{refused, goes_on, nothing_more}
use Rattle.restore.proofs.Passed.{has_length, fitting}
use Rattle.restore.proofs.restore.Goals as goal

pub put_back-requires : goal.put_back-requires
put_back-requires c =
    let a = c.args in record {
      fits = fitting a.shape a.records a.media.now a.tables.now a.replica a.backup.now c.in-Ok.ensures;
    }

pub returns-in-Err : goal.returns-in-Err
unfolding step
returns-in-Err c =
    let a = c.args in
    let x = state_of a.records a.media.now a.tables.now in
    refused a.records a.media.now a.tables.now _ (rows_of a.shape x (restore_of a.replica a.backup.now)) [] c.in-Err.why c.in-Err.ensures c.declined.ensures

pub returns-in-Ok : goal.returns-in-Ok
unfolding step
returns-in-Ok c =
    let a = c.args in
    let x = state_of a.records a.media.now a.tables.now in
    let v = c.in-Ok.ensures in
    goes_on a.records a.media.now a.tables.now (restore_effect a.shape.places x a.replica a.backup.now) (rows_of a.shape x (restore_of a.replica a.backup.now)) [] v
    (nothing_more x (c.put_back.ensures a.shape.places a.tables.now (has_length a.shape a.records a.media.now a.tables.now a.replica a.backup.now v)))
