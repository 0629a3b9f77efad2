-- `reassign::reassign`: `judge` has the whole list; a passed 21 leaves room to raise.
use mathlib.Core.Path.{refl}
use mathlib.Core.List.{[], ◌∷◌, ◌++◌}
use Prim.Native.Nat.{◌+◌, ◌^◌}
use borrow.Author.Tests.{eqb-false}
use native.Mathlib.Omega.{arith}
use Rattle.cluster.specs.Refusals.{generation_at_top, row, cluster_rows}
use Rattle.cluster.specs.Effects.{reassign_effect}
use Rattle.cluster.specs.Step.{step}
use Rattle.checks.specs.Results.{state_of}
use Rattle.checks.proofs.Behind.{no}
use Rattle.checks.proofs.Frame.{refused, goes_on, nothing_more}
use Rattle.local_calls.proofs.reassign.reassign.Goals as goal

pub returns-in-Err : goal.returns-in-Err
unfolding step
returns-in-Err c =
    let a = c.args in
    let rows = cluster_rows a.shape (state_of a.records a.media.now a.tables.now) ++ (row 21 (generation_at_top a.records.register.generation) ∷ []) in
    refused a.records a.media.now a.tables.now _ rows [] c.in-Err.why (c.in-Err.ensures a.media.now a.tables.now refl refl) c.declined.ensures

pub overflow_add-next : goal.overflow_add-next
overflow_add-next c =
    let a = c.args in
    let rows = cluster_rows a.shape (state_of a.records a.media.now a.tables.now) ++ (row 21 (generation_at_top a.records.register.generation) ∷ []) in
    omega (arith, eqb-false (a.records.register.generation + 1) (2 ^ 32) (no rows (c.in_default.ensures a.media.now a.tables.now refl refl) 21))

pub returns : goal.returns
unfolding step reassign_effect
returns c =
    let a = c.args in
    let x = state_of a.records a.media.now a.tables.now in
    let rows = cluster_rows a.shape x ++ (row 21 (generation_at_top a.records.register.generation) ∷ []) in
    goes_on a.records a.media.now a.tables.now (reassign_effect x) rows [] (c.in_default.ensures a.media.now a.tables.now refl refl)
    (nothing_more x (rw (c.value.ensures, c.from.ensures)))
