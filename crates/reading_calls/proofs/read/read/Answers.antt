-- `read::read`: refused at admission, or `read_admitted`; an admission that passed names a server and a replica (`admits`, `named`).
use mathlib.Core.Path.{refl, sym, ◌∙◌}
use borrow.Author.Tests.{leb-false}
use Rattle.cluster.specs.Refusals.{no_replica_at, only_open, replica_rows}
use Rattle.checks.specs.Results.{state_of}
use Rattle.checks.proofs.Frame.{refused, goes_on}
use Rattle.replica_calls.proofs.Known.{named, admits}
use Rattle.reading_calls.proofs.Reading.{read_whole}
use Rattle.reading_calls.proofs.read.read.Goals as goal

pub read_admitted-requires : goal.read_admitted-requires
read_admitted-requires c =
    let a = c.args in
    let d = admits a.shape a.records a.media.now a.tables.now a.server (no_replica_at a.shape.replicas a.replica) only_open (c.in-Ok.ensures a.media.now a.tables.now refl refl) in
    (named a.shape _ a.server a.replica _ _ d.0 (leb-false _ _ d.1), d.0.server)

pub returns-in-Err : goal.returns-in-Err
returns-in-Err c =
    let a = c.args in
    refused a.records a.media.now a.tables.now _ (replica_rows a.shape (state_of a.records a.media.now a.tables.now) a.server (no_replica_at a.shape.replicas a.replica) only_open) _ _ (c.in-Err.ensures a.media.now a.tables.now refl refl) c.declined.ensures
    ∙ sym (read_whole a.shape (state_of a.records a.media.now a.tables.now) a.server a.replica a.id a.fate a.given.now)

pub returns-in-Ok : goal.returns-in-Ok
returns-in-Ok c =
    let a = c.args in
    goes_on a.records a.media.now a.tables.now _ (replica_rows a.shape (state_of a.records a.media.now a.tables.now) a.server (no_replica_at a.shape.replicas a.replica) only_open) _ (c.in-Ok.ensures a.media.now a.tables.now refl refl)
    (c.read_admitted.ensures a.tables.now)
    ∙ sym (read_whole a.shape (state_of a.records a.media.now a.tables.now) a.server a.replica a.id a.fate a.given.now)
