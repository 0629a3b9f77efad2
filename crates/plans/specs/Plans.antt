-- What a call has its replica do, or why it is declined before the message: the code's kinds and plans in the definitions of the calls.
-- Assumes nothing.
use Rattle.std.specs.Prelude.{◌≡◌, ℕ, List, Result, Ok}
use Rattle.fate.specs.declared.Fate.{Fate}
use Rattle.storage.specs.declared.operation.Operation.{Operation}
use Rattle.storage.specs.declared.operation.Operation.TheVariants as op
use Rattle.cluster.specs.declared.Shape.{Shape}
use Rattle.cluster.specs.declared.Phases.{Phases}
use Rattle.cluster.specs.declared.Server.{Server}
use Rattle.cluster.specs.declared.Refusal.{Refusal}
use Rattle.cluster.specs.declared.Call.{Call}
use Rattle.cluster.specs.declared.Call.TheVariants as call
use Rattle.cluster.specs.State.{mark_at}
use Rattle.cluster.specs.Refusals.{only_opening, only_open, vote_mark, Row, prepare_rows, message_rows, trim_rows, send_rows, Verdict}
use Rattle.cluster.specs.Effects.{prepare_operation}
use Rattle.checks.specs.Verdicts.{verdict_of}
use Rattle.plans.specs.declared.Kind.{Kind}
use Rattle.plans.specs.declared.Kind.TheVariants.{Prepare, Trim, Note, Send}

-- ---- kinds

abbrev pub call_of : Kind → ℕ → ℕ → Fate → Call
call_of Prepare s i f = call.Prepare s i f
call_of Trim s i f = call.Trim s i f
call_of Note s i f = call.Note s i f
call_of Send s i f = call.Send s i f

abbrev pub phases_of : Kind → Phases
phases_of Prepare = only_opening
phases_of Trim = only_opening
phases_of Note = only_open
phases_of Send = only_open

-- what is checked before the message
abbrev pub sending_rows : Kind → Shape → Server → ℕ → Fate → List ℕ → List Row
sending_rows Prepare h v i f given = prepare_rows h f given
sending_rows Trim h v i f given = trim_rows h v i f given
sending_rows Note h v i f given = message_rows h v i f given
sending_rows Send h v i f given = send_rows h v i f given

abbrev pub operation_of : Kind → ℕ → Server → ℕ → Operation
operation_of Prepare r v i = prepare_operation v i
operation_of Trim r v i = op.Trim (vote_mark r v)
operation_of Note r v i = op.Note v.start (mark_at v i)
operation_of Send r v i = op.Append (mark_at v i)

-- ---- plans

-- the plan declines with this verdict, or is to do this operation
pub record Planned (p : Result Operation Refusal) (verdict : Verdict) (operation : Operation) : Type 0 where
  pub checked : verdict_of p ≡ verdict
  pub does : (o : Operation) → p ≡ Ok o → o ≡ operation
