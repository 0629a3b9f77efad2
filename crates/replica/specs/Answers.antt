-- A replica's answer to an operation: what the server hears, and the medium after it. Document 01, "Fates" and refusals 18 to 20.
-- Assumes nothing.
use Rattle.std.specs.Prelude.{◌≡◌, ℕ, ◌≤◌, List, Bool, true, false, cond, ◌||◌}
use Rattle.fate.specs.declared.Fate.{Fate}
use Rattle.storage.specs.declared.operation.Operation.{Operation}
use Rattle.storage.specs.declared.operation.Operation.TheVariants as op
use Rattle.storage.specs.Sizes.{places_limit, medium_size}
use Rattle.storage.specs.Log.{mark_of}
use Rattle.storage.specs.Operations.{writes_of}
use Rattle.cluster.specs.Refusals.{answered, no_slot, promise_above, promise_differs, mark_differs}
use Rattle.cluster.specs.Effects.{medium_after}
use Rattle.replica_checks.specs.declared.Heard.{Heard}
use Rattle.replica_checks.specs.declared.Heard.TheVariants.{Silent}
use Rattle.replica_checks.specs.Says.{says}

-- "18 to 22 are seen only if the message is answered, and otherwise it is silent"
abbrev pub when_answered : Fate → Heard → Heard
when_answered f h = cond (answered f) h Silent

-- prepare differs from the others in what it declines
abbrev pub prepares : Operation → Bool
prepares (op.Prepare session to) = true
prepares (op.Trim t) = false
prepares (op.Note low local) = false
prepares (op.Append n) = false

-- 19 "Its promise is above the session (prepare) or differs from it (others)"
abbrev pub other_promise : Bool → ℕ → List ℕ → Bool
other_promise prepares session m = cond prepares (promise_above session m) (promise_differs session m)

-- 20 "Its stored mark differs from the server's record (not prepare)"
abbrev pub other_mark : Bool → ℕ → ℕ → List ℕ → Bool
other_mark prepares N recorded m = cond prepares false (mark_differs N recorded m)

abbrev pub declines : Bool → ℕ → ℕ → ℕ → List ℕ → Bool
declines prepares N session recorded m = no_slot m || other_promise prepares session m || other_mark prepares N recorded m

-- what is heard, and the medium after the message
pub record Answered : Type 0 where
  pub heard : Heard
  pub medium : List ℕ

-- the answer to an operation of a session that records this mark; bs are the bytes that lie beside an append
unfoldable pub answer_to : ℕ → ℕ → ℕ → Operation → List ℕ → Fate → List ℕ → List ℕ → Answered
answer_to N session recorded o bs f given m =
    let p = prepares o in
    let m' = medium_after (declines p N session recorded m) f given (writes_of N bs o m) m in
    record {
      heard = when_answered f (says (no_slot m) (other_promise p session m) (other_mark p N recorded m) (mark_of N m'));
      medium = m';
    }

-- read writes nothing
unfoldable pub read_heard : ℕ → ℕ → ℕ → Fate → List ℕ → Heard
read_heard N session recorded f m =
    when_answered f (says (no_slot m) (promise_differs session m) (mark_differs N recorded m) (mark_of N m))

-- ---- what a replica may rely on

-- one medium of so many places
pub record Medium (places medium : ℕ) : Type 0 where
  pub few : places ≤ places_limit
  pub size : medium ≡ medium_size places

-- an append is to a place of the medium, and behind the recorded mark
abbrev pub Behind : ℕ → Operation → Type 0
Behind recorded (op.Prepare session to) = Unit {0}
Behind recorded (op.Trim t) = Unit {0}
Behind recorded (op.Note low local) = Unit {0}
Behind recorded (op.Append n) = n ≡ recorded
