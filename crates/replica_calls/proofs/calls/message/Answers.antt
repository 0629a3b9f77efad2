-- `calls::message`: refused at admission, or `served`; an admission that passed names a server and a replica (`admits`, `named`).
use native.Mathlib.Omega.{arith}
use mathlib.Core.Path.{refl, sym, ◌∙◌}
use borrow.Author.Tests.{leb-false}
use Rattle.cluster.specs.Refusals.{no_replica_at, replica_rows}
use Rattle.checks.specs.Results.{state_of}
use Rattle.checks.proofs.Frame.{refused, goes_on}
use Rattle.plans.specs.Plans.{phases_of}
use Rattle.replica_calls.proofs.ByKind.{whole}
use Rattle.replica_calls.proofs.Known.{named, admits}
use Rattle.replica_calls.proofs.calls.message.Goals as goal

pub offset_bounds-records-s : goal.offset_bounds-records-s
offset_bounds-records-s c =
    let a = c.args in
    let d = admits a.shape a.records a.media.now a.tables.now a.server (no_replica_at a.shape.replicas a.replica) (phases_of a.kind) (rw c.phases_of.ensures at (c.in-Ok.ensures a.media.now a.tables.now refl refl)) in
    omega (arith, d.0.server)

pub bounds-records-s : goal.bounds-records-s
bounds-records-s c =
    let a = c.args in
    let d = admits a.shape a.records a.media.now a.tables.now a.server (no_replica_at a.shape.replicas a.replica) (phases_of a.kind) (rw c.phases_of.ensures at (c.in-Ok.ensures a.media.now a.tables.now refl refl)) in
    omega (arith, d.0.server)

pub served-c-requires : goal.served-c-requires
served-c-requires c =
    let a = c.args in
    let d = admits a.shape a.records a.media.now a.tables.now a.server (no_replica_at a.shape.replicas a.replica) (phases_of a.kind) (rw c.phases_of.ensures at (c.in-Ok.ensures a.media.now a.tables.now refl refl)) in
    named a.shape _ a.server a.replica _ _ d.0 (leb-false _ _ d.1)

pub settle-requires : goal.settle-requires
settle-requires c =
    let a = c.args in
    let d = admits a.shape a.records a.media.now a.tables.now a.server (no_replica_at a.shape.replicas a.replica) (phases_of a.kind) (rw c.phases_of.ensures at (c.in-Ok.ensures a.media.now a.tables.now refl refl)) in
    d.0.server

pub returns-in-Err : goal.returns-in-Err
returns-in-Err c =
    let a = c.args in
    let k = rw c.phases_of.ensures at (c.in-Err.ensures a.media.now a.tables.now refl refl) in
    refused a.records a.media.now a.tables.now _ (replica_rows a.shape (state_of a.records a.media.now a.tables.now) a.server (no_replica_at a.shape.replicas a.replica) (phases_of a.kind)) _ _ k c.declined.ensures
    ∙ sym (whole a.shape (state_of a.records a.media.now a.tables.now) a.server a.replica a.fate a.given.now a.kind)

pub returns-in-Ok : goal.returns-in-Ok
returns-in-Ok c =
    let a = c.args in
    let k = rw c.phases_of.ensures at (c.in-Ok.ensures a.media.now a.tables.now refl refl) in
    goes_on a.records a.media.now a.tables.now _ (replica_rows a.shape (state_of a.records a.media.now a.tables.now) a.server (no_replica_at a.shape.replicas a.replica) (phases_of a.kind)) _ k
    (rw c.settle.ensures (c.served-c.ensures a.records a.server a.tables.now refl))
    ∙ sym (whole a.shape (state_of a.records a.media.now a.tables.now) a.server a.replica a.fate a.given.now a.kind)
