-- `take::judge`: 6 and 21 behind the admission's rows.
use mathlib.Core.Path.{◌≡◌, refl}
use mathlib.Core.List.{[], ◌∷◌}
use mathlib.Core.Bool.{◌&&◌}
use Prim.Native.Nat.{◌^◌}
use Rattle.base.proofs.Tops.{top_is}
use Rattle.cluster.specs.Refusals.{row, only_idle, phase_rows, answered, session_at_top}
use Rattle.checks.specs.Results.{state_of}
use Rattle.checks.proofs.Behind.{behind, stopped}
use Rattle.register_calls.proofs.take.judge.Goals.{then-is_answered, else-is_answered}
use Rattle.register_calls.proofs.take.judge.Goals as goal

pub returns-in_err-admit_phase : goal.returns-in_err-admit_phase
returns-in_err-admit_phase c =
    λ m t em et. stopped _ _ (phase_rows _ (state_of _ m t) _ only_idle) _ c.from_residual.ensures (c.in_err-admit_phase.ensures m t em et)

pub returns-in_err-refuse_if : goal.returns-in_err-refuse_if
returns-in_err-refuse_if c =
    λ m t em et.
    rw (← c.is_cut.ensures)
    (behind (phase_rows _ (state_of _ m t) _ only_idle) _ (c.in_ok-admit_phase.ensures m t em et)
    (stopped _ _ (row 6 _ ∷ []) _ c.from_residual-in_err-refuse_if.ensures c.in_err-refuse_if.ensures))

pub returns : goal.returns
returns c =
    λ m t em et.
    let late : c.if-is_answered.refuse_if ≡ (answered c.args.fate && session_at_top c.args.records.register.session) =
    elim c.if-is_answered.branch [
      | then-is_answered w ↦
          rw (w.refuse_if-is, ← c.is_answered.ensures, w.if-is_answered.true) (top_is 18446744073709551615 (2 ^ 64) refl c.args.records.register.session)
      | else-is_answered w ↦ rw (w.refuse_if-is, ← c.is_answered.ensures, w.if-is_answered.false) refl
    ] in
    rw (← c.is_cut.ensures, ← late)
    (behind (phase_rows _ (state_of _ m t) _ only_idle) _ (c.in_ok-admit_phase.ensures m t em et)
    (behind (row 6 _ ∷ []) _ c.in_ok-refuse_if.ensures c.refuse_if-2.ensures))
