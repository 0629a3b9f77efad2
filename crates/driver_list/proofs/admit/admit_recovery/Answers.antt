-- `admit::admit_recovery`: declined for the given bytes, by 1 to 5, or as the list is (proofs/Declining).
use mathlib.Core.Path.{refl}
use Rattle.checks.specs.Results.{state_of}
use Rattle.driver_list.proofs.Declining.{by_bytes, by_replica, by_list}
use Rattle.driver_list.proofs.admit.admit_recovery.Goals as goal

pub returns-in_err-refuse_if : goal.returns-in_err-refuse_if
returns-in_err-refuse_if c =
    let a = c.args in
    by_bytes a.shape (state_of a.records a.media.now a.tables.now) a.server a.listed.now a.fates.now a.given.now c.other_given.ensures
    _ _ c.from_residual.ensures c.in_err-refuse_if.ensures

pub returns-in_err-admit_replica : goal.returns-in_err-admit_replica
returns-in_err-admit_replica c =
    let a = c.args in
    by_replica a.shape (state_of a.records a.media.now a.tables.now) a.server a.listed.now a.fates.now a.given.now c.other_given.ensures
    c.in_ok-refuse_if.ensures c.not_below.ensures
    _ _ c.from_residual-in_err-admit_replica.ensures (c.in_err-admit_replica.ensures a.media.now a.tables.now refl refl)

pub returns : goal.returns
returns c =
    let a = c.args in
    by_list a.shape (state_of a.records a.media.now a.tables.now) a.server a.listed.now a.fates.now a.given.now c.other_given.ensures
    c.in_ok-refuse_if.ensures c.not_below.ensures
    (c.in_ok-admit_replica.ensures a.media.now a.tables.now refl refl) c.unfit_list.ensures c.refuse_if-2.ensures
