-- `judge`: the rows 5, 10 to 14 with 28 and 23 among them, and 15, each behind those that passed.
use mathlib.Core.Path.{◌≡◌}
use mathlib.Core.List.{[], ◌∷◌}
use Rattle.locks.specs.Locks.{first_held}
use Rattle.cluster.specs.State.{table_at}
use Rattle.cluster.specs.Refusals.{row, lock_row, pass, declined, first_of}
use Rattle.checks.proofs.Behind.{behind, stopped}
use Rattle.issue_checks.proofs.Tables.{table_is, held_declines, free_passes}
use Rattle.issue_checks.proofs.judge.Goals as goal

pub returns-in_err-refuse_if : goal.returns-in_err-refuse_if
returns-in_err-refuse_if c =
    rw (← c.allowed.ensures)
    (stopped _ _ (row 5 _ ∷ []) _ c.from_residual.ensures c.in_err-refuse_if.ensures)

pub returns-in_err-refuse_if-2 : goal.returns-in_err-refuse_if-2
returns-in_err-refuse_if-2 c =
    rw (← c.allowed.ensures)
    (behind (row 5 _ ∷ []) _ c.in_ok-refuse_if.ensures
    (stopped _ _ (row 10 _ ∷ []) _ c.from_residual-in_err-refuse_if-2.ensures c.in_err-refuse_if-2.ensures))

pub returns-in_err-refuse_if-3 : goal.returns-in_err-refuse_if-3
returns-in_err-refuse_if-3 c =
    rw (← c.allowed.ensures)
    (behind (row 5 _ ∷ []) _ c.in_ok-refuse_if.ensures
    (behind (row 10 _ ∷ []) _ c.in_ok-refuse_if-2.ensures
    (stopped _ _ (row 11 _ ∷ []) _ c.from_residual-in_err-refuse_if-3.ensures c.in_err-refuse_if-3.ensures)))

pub returns-in_err-refuse_if-4 : goal.returns-in_err-refuse_if-4
returns-in_err-refuse_if-4 c =
    rw (← c.allowed.ensures, ← c.exceeds.ensures)
    (behind (row 5 _ ∷ []) _ c.in_ok-refuse_if.ensures
    (behind (row 10 _ ∷ []) _ c.in_ok-refuse_if-2.ensures
    (behind (row 11 _ ∷ []) _ c.in_ok-refuse_if-3.ensures
    (stopped _ _ (row 12 _ ∷ []) _ c.from_residual-in_err-refuse_if-4.ensures c.in_err-refuse_if-4.ensures))))

pub returns-in_err-refuse_if-5 : goal.returns-in_err-refuse_if-5
returns-in_err-refuse_if-5 c =
    rw (← c.allowed.ensures, ← c.exceeds.ensures)
    (behind (row 5 _ ∷ []) _ c.in_ok-refuse_if.ensures
    (behind (row 10 _ ∷ []) _ c.in_ok-refuse_if-2.ensures
    (behind (row 11 _ ∷ []) _ c.in_ok-refuse_if-3.ensures
    (behind (row 12 _ ∷ []) _ c.in_ok-refuse_if-4.ensures
    (stopped _ _ (row 28 _ ∷ []) _ c.from_residual-in_err-refuse_if-5.ensures c.in_err-refuse_if-5.ensures)))))

pub returns-in_err-refuse_if-6 : goal.returns-in_err-refuse_if-6
returns-in_err-refuse_if-6 c =
    rw (← c.allowed.ensures, ← c.exceeds.ensures, ← c.lags.ensures)
    (behind (row 5 _ ∷ []) _ c.in_ok-refuse_if.ensures
    (behind (row 10 _ ∷ []) _ c.in_ok-refuse_if-2.ensures
    (behind (row 11 _ ∷ []) _ c.in_ok-refuse_if-3.ensures
    (behind (row 12 _ ∷ []) _ c.in_ok-refuse_if-4.ensures
    (behind (row 28 _ ∷ []) _ c.in_ok-refuse_if-5.ensures
    (stopped _ _ (row 13 _ ∷ []) _ c.from_residual-in_err-refuse_if-6.ensures c.in_err-refuse_if-6.ensures))))))

pub returns-in_err-refuse_if-7 : goal.returns-in_err-refuse_if-7
returns-in_err-refuse_if-7 c =
    rw (← c.allowed.ensures, ← c.exceeds.ensures, ← c.lags.ensures)
    (behind (row 5 _ ∷ []) _ c.in_ok-refuse_if.ensures
    (behind (row 10 _ ∷ []) _ c.in_ok-refuse_if-2.ensures
    (behind (row 11 _ ∷ []) _ c.in_ok-refuse_if-3.ensures
    (behind (row 12 _ ∷ []) _ c.in_ok-refuse_if-4.ensures
    (behind (row 28 _ ∷ []) _ c.in_ok-refuse_if-5.ensures
    (behind (row 13 _ ∷ []) _ c.in_ok-refuse_if-6.ensures
    (stopped _ _ (row 14 _ ∷ []) _ c.from_residual-in_err-refuse_if-7.ensures c.in_err-refuse_if-7.ensures)))))))

pub returns-in_err-refuse_if-8 : goal.returns-in_err-refuse_if-8
returns-in_err-refuse_if-8 c =
    rw (← c.allowed.ensures, ← c.exceeds.ensures, ← c.lags.ensures, ← c.lags-2.ensures)
    (behind (row 5 _ ∷ []) _ c.in_ok-refuse_if.ensures
    (behind (row 10 _ ∷ []) _ c.in_ok-refuse_if-2.ensures
    (behind (row 11 _ ∷ []) _ c.in_ok-refuse_if-3.ensures
    (behind (row 12 _ ∷ []) _ c.in_ok-refuse_if-4.ensures
    (behind (row 28 _ ∷ []) _ c.in_ok-refuse_if-5.ensures
    (behind (row 13 _ ∷ []) _ c.in_ok-refuse_if-6.ensures
    (behind (row 14 _ ∷ []) _ c.in_ok-refuse_if-7.ensures
    (stopped _ _ (row 23 _ ∷ []) _ c.from_residual-in_err-refuse_if-8.ensures c.in_err-refuse_if-8.ensures))))))))

pub returns-in-Some : goal.returns-in-Some
returns-in-Some c =
    let a = c.args in
    let last : declined 15 (c.in-Some.held.lock ∷ c.in-Some.held.estimate ∷ []) ≡ first_of (lock_row (first_held (table_at a.i a.tables.now) a.locks.now a.request.mark) ∷ []) =
    rw (← table_is a.i a.tables.now, ← c.first_held.ensures) (held_declines _ _ c.in-Some.is) in
    rw (← c.allowed.ensures, ← c.exceeds.ensures, ← c.lags.ensures, ← c.lags-2.ensures)
    (behind (row 5 _ ∷ []) _ c.in_ok-refuse_if.ensures
    (behind (row 10 _ ∷ []) _ c.in_ok-refuse_if-2.ensures
    (behind (row 11 _ ∷ []) _ c.in_ok-refuse_if-3.ensures
    (behind (row 12 _ ∷ []) _ c.in_ok-refuse_if-4.ensures
    (behind (row 28 _ ∷ []) _ c.in_ok-refuse_if-5.ensures
    (behind (row 13 _ ∷ []) _ c.in_ok-refuse_if-6.ensures
    (behind (row 14 _ ∷ []) _ c.in_ok-refuse_if-7.ensures
    (behind (row 23 _ ∷ []) _ c.in_ok-refuse_if-8.ensures
    last))))))))

pub returns-in-None : goal.returns-in-None
returns-in-None c =
    let a = c.args in
    let last : pass ≡ first_of (lock_row (first_held (table_at a.i a.tables.now) a.locks.now a.request.mark) ∷ []) =
    rw (← table_is a.i a.tables.now, ← c.first_held.ensures) (free_passes _ c.in-None.is) in
    rw (← c.allowed.ensures, ← c.exceeds.ensures, ← c.lags.ensures, ← c.lags-2.ensures)
    (behind (row 5 _ ∷ []) _ c.in_ok-refuse_if.ensures
    (behind (row 10 _ ∷ []) _ c.in_ok-refuse_if-2.ensures
    (behind (row 11 _ ∷ []) _ c.in_ok-refuse_if-3.ensures
    (behind (row 12 _ ∷ []) _ c.in_ok-refuse_if-4.ensures
    (behind (row 28 _ ∷ []) _ c.in_ok-refuse_if-5.ensures
    (behind (row 13 _ ∷ []) _ c.in_ok-refuse_if-6.ensures
    (behind (row 14 _ ∷ []) _ c.in_ok-refuse_if-7.ensures
    (behind (row 23 _ ∷ []) _ c.in_ok-refuse_if-8.ensures
    last))))))))
