-- `open::judge`: the rows 5, 6, 8, 9 and 22, each behind those that passed.
use mathlib.Core.Path.{◌≡◌, refl, sym, ap, ◌∙◌}
use mathlib.Core.Bool.{◌&&◌}
use mathlib.Core.List.{[], ◌∷◌}
use native.Mathlib.Omega.{arith}
use Rattle.std.specs.Prelude.{Some, None, Err, ok_or}
use Rattle.std.specs.Result.{result_ok}
use Rattle.cluster.specs.declared.Refusal.TheVariants as refusal
use Rattle.cluster.specs.Refusals.{row, answered, session_differs}
use Rattle.checks.proofs.Behind.{behind, stopped}
use Rattle.register_calls.proofs.Judging.{undecided_is, decided_passes, counted, few_is}
use Rattle.register_calls.proofs.open.judge.Goals.{then-is_answered, else-is_answered}
use Rattle.register_calls.proofs.open.judge.Goals as goal

pub returns-in_err-refuse_if-clause-verdict : goal.returns-in_err-refuse_if-clause-verdict
returns-in_err-refuse_if-clause-verdict c =
    rw (← c.allowed.ensures) (stopped _ _ (row 5 _ ∷ []) _ c.from_residual.ensures c.in_err-refuse_if.ensures)

pub returns-in_err-refuse_if-2-clause-verdict : goal.returns-in_err-refuse_if-2-clause-verdict
returns-in_err-refuse_if-2-clause-verdict c =
    rw (← c.allowed.ensures, ← c.is_cut.ensures)
    (behind (row 5 _ ∷ []) _ c.in_ok-refuse_if.ensures
    (stopped _ _ (row 6 _ ∷ []) _ c.from_residual-in_err-refuse_if-2.ensures c.in_err-refuse_if-2.ensures))

pub returns-in_err-ballot-clause-verdict : goal.returns-in_err-ballot-clause-verdict
returns-in_err-ballot-clause-verdict c =
    let none : c.count.result ≡ None = c.ok_or.ensures.ok_part ∙ ap result_ok c.in_err-ballot.was in
    let same : Err c.in_err-ballot.field-0.0 ≡ ok_or None refusal.Undecided =
    sym c.in_err-ballot.was ∙ c.ok_or.ensures.value ∙ ap (λ o. ok_or o refusal.Undecided) none in
    let why : c.in_err-ballot.field-0.0 ≡ refusal.Undecided = grind arith in
    rw (← c.allowed.ensures, ← c.is_cut.ensures)
    (behind (row 5 _ ∷ []) _ c.in_ok-refuse_if.ensures
    (behind (row 6 _ ∷ []) _ c.in_ok-refuse_if-2.ensures
    (stopped _ _ (row 8 _ ∷ []) _ c.from_residual-in_err-ballot.ensures (rw why (undecided_is _ _ _ c.count.ensures none)))))

pub returns-in_err-refuse_if-3-clause-verdict : goal.returns-in_err-refuse_if-3-clause-verdict
returns-in_err-refuse_if-3-clause-verdict c =
    let a = c.args in
    let b = c.in_ok-ballot.ballot in
    let some : c.count.result ≡ Some b = c.ok_or.ensures.ok_part ∙ ap result_ok c.in_ok-ballot.was in
    let n = counted a.server.now a.replicas _ c.count.ensures b some in
    rw (← c.allowed.ensures, ← c.is_cut.ensures, ← few_is a.server.now a.replicas b n, ← c.has_too_few.ensures)
    (behind (row 5 _ ∷ []) _ c.in_ok-refuse_if.ensures
    (behind (row 6 _ ∷ []) _ c.in_ok-refuse_if-2.ensures
    (behind (row 8 _ ∷ []) _ (decided_passes _ _ _ c.count.ensures b some)
    (stopped _ _ (row 9 _ ∷ []) _ c.from_residual-in_err-refuse_if-3.ensures c.in_err-refuse_if-3.ensures))))

pub returns-in_err-refuse_if-4-clause-verdict : goal.returns-in_err-refuse_if-4-clause-verdict
returns-in_err-refuse_if-4-clause-verdict c =
    let a = c.args in
    let b = c.in_ok-ballot.ballot in
    let some : c.count.result ≡ Some b = c.ok_or.ensures.ok_part ∙ ap result_ok c.in_ok-ballot.was in
    let n = counted a.server.now a.replicas _ c.count.ensures b some in
    let other : c.if-is_answered.refuse_if ≡ (answered a.fate && session_differs a.register.now a.server.now) =
    elim c.if-is_answered.branch [
      | then-is_answered w ↦ rw (w.refuse_if-is, ← c.is_answered.ensures, w.if-is_answered.true) refl
      | else-is_answered w ↦ rw (w.refuse_if-is, ← c.is_answered.ensures, w.if-is_answered.false) refl
    ] in
    rw (← c.allowed.ensures, ← c.is_cut.ensures, ← few_is a.server.now a.replicas b n, ← c.has_too_few.ensures, ← other)
    (behind (row 5 _ ∷ []) _ c.in_ok-refuse_if.ensures
    (behind (row 6 _ ∷ []) _ c.in_ok-refuse_if-2.ensures
    (behind (row 8 _ ∷ []) _ (decided_passes _ _ _ c.count.ensures b some)
    (behind (row 9 _ ∷ []) _ c.in_ok-refuse_if-3.ensures
    (stopped _ _ (row 22 _ ∷ []) _ c.from_residual-in_err-refuse_if-4.ensures c.in_err-refuse_if-4.ensures)))))

pub returns-clause-verdict : goal.returns-clause-verdict
returns-clause-verdict c =
    let a = c.args in
    let b = c.in_ok-ballot.ballot in
    let some : c.count.result ≡ Some b = c.ok_or.ensures.ok_part ∙ ap result_ok c.in_ok-ballot.was in
    let n = counted a.server.now a.replicas _ c.count.ensures b some in
    let other : c.if-is_answered.refuse_if ≡ (answered a.fate && session_differs a.register.now a.server.now) =
    elim c.if-is_answered.branch [
      | then-is_answered w ↦ rw (w.refuse_if-is, ← c.is_answered.ensures, w.if-is_answered.true) refl
      | else-is_answered w ↦ rw (w.refuse_if-is, ← c.is_answered.ensures, w.if-is_answered.false) refl
    ] in
    rw (← c.allowed.ensures, ← c.is_cut.ensures, ← few_is a.server.now a.replicas b n, ← c.has_too_few.ensures, ← other)
    (behind (row 5 _ ∷ []) _ c.in_ok-refuse_if.ensures
    (behind (row 6 _ ∷ []) _ c.in_ok-refuse_if-2.ensures
    (behind (row 8 _ ∷ []) _ (decided_passes _ _ _ c.count.ensures b some)
    (behind (row 9 _ ∷ []) _ c.in_ok-refuse_if-3.ensures c.in_ok-refuse_if-4.ensures))))

pub returns-clause-ballot : goal.returns-clause-ballot
returns-clause-ballot c =
    counted c.args.server.now c.args.replicas _ c.count.ensures c.in_ok-ballot.ballot (c.ok_or.ensures.ok_part ∙ ap result_ok c.in_ok-ballot.was)
