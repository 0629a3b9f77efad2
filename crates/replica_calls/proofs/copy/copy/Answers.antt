-- `copy::copy`: refused at admission, or `copied`; a passed 4 names two replicas, each with its medium (`both_named`).
use native.Mathlib.Omega.{arith}
use mathlib.Core.Path.{refl, sym, ◌∙◌}
use Rattle.cluster.specs.Refusals.{not_two, opening_or_open, replica_rows}
use Rattle.checks.specs.Results.{state_of}
use Rattle.checks.proofs.Frame.{refused, goes_on}
use Rattle.replica_calls.proofs.Copying.{copy_whole}
use Rattle.replica_calls.proofs.Known.{named, admits, both_named}
use Rattle.replica_calls.proofs.copy.copy.Goals as goal

pub offset_bounds-records-s : goal.offset_bounds-records-s
offset_bounds-records-s c =
    let a = c.args in
    let d = admits a.shape a.records a.media.now a.tables.now a.server (not_two a.shape.replicas a.from a.to) opening_or_open (rw c.not_two.ensures at (c.in-Ok.ensures a.media.now a.tables.now refl refl)) in
    omega (arith, d.0.server)

pub bounds-records-s : goal.bounds-records-s
bounds-records-s c =
    let a = c.args in
    let d = admits a.shape a.records a.media.now a.tables.now a.server (not_two a.shape.replicas a.from a.to) opening_or_open (rw c.not_two.ensures at (c.in-Ok.ensures a.media.now a.tables.now refl refl)) in
    omega (arith, d.0.server)

pub copied-c-requires : goal.copied-c-requires
copied-c-requires c =
    let a = c.args in
    let d = admits a.shape a.records a.media.now a.tables.now a.server (not_two a.shape.replicas a.from a.to) opening_or_open (rw c.not_two.ensures at (c.in-Ok.ensures a.media.now a.tables.now refl refl)) in
    let n = both_named a.shape.replicas a.from a.to d.1 in
    (named a.shape _ a.server a.from _ _ d.0 n.0, named a.shape _ a.server a.to _ _ d.0 n.1)

pub settle-requires : goal.settle-requires
settle-requires c =
    let a = c.args in
    let d = admits a.shape a.records a.media.now a.tables.now a.server (not_two a.shape.replicas a.from a.to) opening_or_open (rw c.not_two.ensures at (c.in-Ok.ensures a.media.now a.tables.now refl refl)) in
    d.0.server

pub returns-in-Err : goal.returns-in-Err
returns-in-Err c =
    let a = c.args in
    let k = rw c.not_two.ensures at (c.in-Err.ensures a.media.now a.tables.now refl refl) in
    refused a.records a.media.now a.tables.now _ (replica_rows a.shape (state_of a.records a.media.now a.tables.now) a.server (not_two a.shape.replicas a.from a.to) opening_or_open) _ _ k c.declined.ensures
    ∙ sym (copy_whole a.shape (state_of a.records a.media.now a.tables.now) a.server a.from a.to a.fate a.given.now)

pub returns-in-Ok : goal.returns-in-Ok
returns-in-Ok c =
    let a = c.args in
    let k = rw c.not_two.ensures at (c.in-Ok.ensures a.media.now a.tables.now refl refl) in
    goes_on a.records a.media.now a.tables.now _ (replica_rows a.shape (state_of a.records a.media.now a.tables.now) a.server (not_two a.shape.replicas a.from a.to) opening_or_open) _ k
    (rw c.settle.ensures (c.copied-c.ensures a.records a.server a.tables.now refl))
    ∙ sym (copy_whole a.shape (state_of a.records a.media.now a.tables.now) a.server a.from a.to a.fate a.given.now)
