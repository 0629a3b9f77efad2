-- `check_copy`: four tests, each behind the ones before, are the rows 6, 7, 16 and 17.
use mathlib.Core.Path.{◌≡◌}
use Prim.Native.Nat.{ℕ}
use Rattle.cluster.specs.declared.Server.{Server}
use mathlib.Core.Bool.{◌||◌}
use mathlib.Core.List.{[], ◌∷◌}
use native.Mathlib.Omega.{arith}
use lib.Dec.{leb}
use Rattle.std.proofs.lemmas.Bool.Decides.{nat_tests}
use Rattle.cluster.specs.Refusals.{row, replica_out, nothing_to_copy}
use Rattle.cluster.specs.State.{mark_at}
use Rattle.checks.proofs.Behind.{behind, stopped}
use Rattle.copy_checks.proofs.check_copy.Goals as goal

not_above : (v : Server) (from to : ℕ) → leb (mark_at v from) (mark_at v to) ≡ nothing_to_copy v from to
not_above v from to = grind (arith, nat_tests)

pub returns-in_err-refuse_if : goal.returns-in_err-refuse_if
returns-in_err-refuse_if c = rw (← c.unfit_fate.ensures) (stopped _ _ (row 6 _ ∷ []) _ c.from_residual.ensures c.in_err-refuse_if.ensures)

pub returns-in_err-refuse_if-2 : goal.returns-in_err-refuse_if-2
returns-in_err-refuse_if-2 c =
    let a = c.args in
    let out : c.if-not-is_active.out ≡ (replica_out a.v a.from || replica_out a.v a.to) = grind (arith, nat_tests) in
    rw (← c.unfit_fate.ensures, ← out)
    (behind (row 6 _ ∷ []) _ c.in_ok-refuse_if.ensures
    (stopped _ _ (row 7 _ ∷ []) _ c.from_residual-in_err-refuse_if-2.ensures c.in_err-refuse_if-2.ensures))

pub returns-in_err-refuse_if-3 : goal.returns-in_err-refuse_if-3
returns-in_err-refuse_if-3 c =
    let a = c.args in
    let out : c.if-not-is_active.out ≡ (replica_out a.v a.from || replica_out a.v a.to) = grind (arith, nat_tests) in
    rw (← c.unfit_fate.ensures, ← out, ← (not_above a.v a.from a.to))
    (behind (row 6 _ ∷ []) _ c.in_ok-refuse_if.ensures
    (behind (row 7 _ ∷ []) _ c.in_ok-refuse_if-2.ensures
    (stopped _ _ (row 16 _ ∷ []) _ c.from_residual-in_err-refuse_if-3.ensures c.in_err-refuse_if-3.ensures)))

pub returns : goal.returns
returns c =
    let a = c.args in
    let out : c.if-not-is_active.out ≡ (replica_out a.v a.from || replica_out a.v a.to) = grind (arith, nat_tests) in
    rw (← c.unfit_fate.ensures, ← out, ← (not_above a.v a.from a.to), ← c.source_unfit.ensures)
    (behind (row 6 _ ∷ []) _ c.in_ok-refuse_if.ensures
    (behind (row 7 _ ∷ []) _ c.in_ok-refuse_if-2.ensures
    (behind (row 16 _ ∷ []) _ c.in_ok-refuse_if-3.ensures c.refuse_if-4.ensures)))
