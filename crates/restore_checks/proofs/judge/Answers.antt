-- `judge`: bytes of another length meet 1; else 4, 21 and 30 behind the admission's rows are the whole list (`by_rows`).
use mathlib.Core.Path.{refl, sym, ◌∙◌}
use mathlib.Core.List.{[], ◌∷◌}
use Prim.Native.Nat.{◌^◌}
use native.Mathlib.Omega.{arith}
use lib.ListN.{length}
use borrow.Author.Tests.{eqb-true, not-false}
use Rattle.base.proofs.Tops.{top_is}
use Rattle.storage.specs.Sizes.{medium_size}
use Rattle.cluster.specs.Refusals.{row, cluster_rows}
use Rattle.checks.specs.Results.{state_of}
use Rattle.checks.proofs.Behind.{behind, stopped}
use Rattle.restore_checks.proofs.Declining.{by_length, by_rows}
use Rattle.restore_checks.proofs.judge.Goals as goal

pub returns-then-other_length : goal.returns-then-other_length
returns-then-other_length c =
    let a = c.args in
    let x = state_of a.records a.media.now a.tables.now in
    by_length a.shape x a.replica a.backup.now c.other_length.ensures c.if-other_length.true

pub returns-in_err-admit_cluster : goal.returns-in_err-admit_cluster
returns-in_err-admit_cluster c =
    let a = c.args in
    let x = state_of a.records a.media.now a.tables.now in
    by_rows a.shape x a.replica a.backup.now c.other_length.ensures c.if-other_length.false
    (stopped _ _ (cluster_rows a.shape x) _ c.from_residual.ensures (c.in_err-admit_cluster.ensures a.media.now a.tables.now refl refl))

pub returns-in_err-refuse_if : goal.returns-in_err-refuse_if
returns-in_err-refuse_if c =
    let a = c.args in
    let x = state_of a.records a.media.now a.tables.now in
    by_rows a.shape x a.replica a.backup.now c.other_length.ensures c.if-other_length.false
    (behind (cluster_rows a.shape x) _ (c.in_ok-admit_cluster.ensures a.media.now a.tables.now refl refl)
    (stopped _ _ (row 4 _ ∷ []) _ c.from_residual-in_err-refuse_if.ensures c.in_err-refuse_if.ensures))

pub returns-in_err-refuse_if-2 : goal.returns-in_err-refuse_if-2
returns-in_err-refuse_if-2 c =
    let a = c.args in
    let x = state_of a.records a.media.now a.tables.now in
    by_rows a.shape x a.replica a.backup.now c.other_length.ensures c.if-other_length.false
    (rw (← top_is 18446744073709551615 (2 ^ 64) refl a.records.register.session)
    (behind (cluster_rows a.shape x) _ (c.in_ok-admit_cluster.ensures a.media.now a.tables.now refl refl)
    (behind (row 4 _ ∷ []) _ c.in_ok-refuse_if.ensures
    (stopped _ _ (row 21 _ ∷ []) _ c.from_residual-in_err-refuse_if-2.ensures c.in_err-refuse_if-2.ensures))))

pub has_no_slot-requires : goal.has_no_slot-requires
has_no_slot-requires c =
    let a = c.args in record {
      slots_size_in_bounds = omega (arith, eqb-true (length a.backup.now) (medium_size a.shape.places) (not-false _ (sym c.other_length.ensures ∙ c.if-other_length.false)));
    }

pub returns : goal.returns
returns c =
    let a = c.args in
    let x = state_of a.records a.media.now a.tables.now in
    by_rows a.shape x a.replica a.backup.now c.other_length.ensures c.if-other_length.false
    (rw (← top_is 18446744073709551615 (2 ^ 64) refl a.records.register.session, ← c.has_no_slot.ensures)
    (behind (cluster_rows a.shape x) _ (c.in_ok-admit_cluster.ensures a.media.now a.tables.now refl refl)
    (behind (row 4 _ ∷ []) _ c.in_ok-refuse_if.ensures
    (behind (row 21 _ ∷ []) _ c.in_ok-refuse_if-2.ensures c.refuse_if-3.ensures))))
