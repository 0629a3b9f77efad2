-- `export::export`: refused at admission, or `export_admitted`; an admission that passed names a server and a replica (`admits`, `named`). The files are by
-- the reply (`files_whole`).
use mathlib.Core.Path.{refl, sym, ◌∙◌}
use borrow.Author.Tests.{leb-false}
use Rattle.cluster.specs.Refusals.{no_replica_at, only_open, replica_rows}
use Rattle.cluster.specs.Effects.{exported_pair}
use Rattle.checks.specs.Results.{files_of, state_of}
use Rattle.checks.proofs.Frame.{refused, goes_on}
use Rattle.replica_calls.proofs.Known.{named, admits}
use Rattle.export_calls.proofs.Exporting.{export_whole, files_whole, declined_files}
use Rattle.export_calls.proofs.export.export.Goals as goal

pub export_admitted-requires : goal.export_admitted-requires
export_admitted-requires c =
    let a = c.args in
    let d = admits a.shape a.records a.media.now a.tables.now a.server (no_replica_at a.shape.replicas a.replica) only_open (c.in-Ok.ensures a.media.now a.tables.now refl refl) in
    (named a.shape _ a.server a.replica _ _ d.0 (leb-false _ _ d.1), d.0.server)

pub returns-in-Err : goal.returns-in-Err
returns-in-Err c =
    let a = c.args in
    let x = state_of a.records a.media.now a.tables.now in
    let rows = replica_rows a.shape x a.server (no_replica_at a.shape.replicas a.replica) only_open in
    let e =
    refused a.records a.media.now a.tables.now _ rows _ _ (c.in-Err.ensures a.media.now a.tables.now refl refl) c.declined.ensures
    ∙ sym (export_whole a.shape x a.server a.replica a.fate a.given.now a.stamp a.file.now a.index.now) in (
      e,
      files_whole a.shape x a.server a.replica a.fate a.given.now a.stamp a.file.now a.index.now e
          (declined_files a.records (exported_pair a.shape.places x a.server a.replica a.stamp) (files_of a.file.now a.index.now) c.declined.ensures),
    )

pub returns-in-Ok : goal.returns-in-Ok
returns-in-Ok c =
    let a = c.args in
    let x = state_of a.records a.media.now a.tables.now in
    let rows = replica_rows a.shape x a.server (no_replica_at a.shape.replicas a.replica) only_open in
    let e =
    goes_on a.records a.media.now a.tables.now _ rows _ (c.in-Ok.ensures a.media.now a.tables.now refl refl)
    (c.export_admitted.ensures.0 a.tables.now)
    ∙ sym (export_whole a.shape x a.server a.replica a.fate a.given.now a.stamp a.file.now a.index.now) in (
      e,
      files_whole a.shape x a.server a.replica a.fate a.given.now a.stamp a.file.now a.index.now e
          c.export_admitted.ensures.1,
    )
