-- A message that has a replica do an operation: what it does, whatever the operation is, and what the replica may decline.
-- Assumes nothing.
use Rattle.std.specs.Prelude.{ℕ, ◌+◌, ◌*◌, ◌≤◌, ◌<◌, Bool, true, false, cond, ◌&&◌, List, [], ◌∷◌}
use Rattle.fate.specs.declared.Fate.{Fate}
use Rattle.storage.specs.declared.operation.Operation.{Operation}
use Rattle.storage.specs.declared.operation.Operation.TheVariants as op
use Rattle.storage.specs.Sizes.{places_limit, medium_size}
use Rattle.storage.specs.Log.{mark_of}
use Rattle.storage.specs.Operations.{writes_of, medium_at}
use Rattle.cluster.specs.declared.Shape.{Shape}
use Rattle.cluster.specs.declared.Server.{Server}
use Rattle.cluster.specs.State.{State, server_at, mark_at}
use Rattle.cluster.specs.Replies.{ok}
use Rattle.cluster.specs.Refusals.{no_slot, is_open, Row, seen}
use Rattle.cluster.specs.Effects.{Result, no_bytes, medium_after, after_message, reply_to, with_medium_and_server}
use Rattle.cluster.specs.Step.{rest}
use Rattle.replica.specs.Answers.{prepares, other_promise, other_mark, declines}
use Rattle.hearing.specs.Hearing.{counted}

-- send and copy append: an open server then counts what is acknowledged
abbrev pub appends : Operation → Bool
appends (op.Prepare session to) = false
appends (op.Trim t) = false
appends (op.Note low local) = false
appends (op.Append n) = true

-- 18 to 20
abbrev pub received_by : ℕ → Server → ℕ → Operation → List ℕ → Fate → List Row
received_by N v i o m f =
    seen f 18 (no_slot m)
    ∷ seen f 19 (other_promise (prepares o) v.session m)
    ∷ seen f 20 (other_mark (prepares o) N (mark_at v i) m)
    ∷ []

-- server s has replica i do an operation; bs are the bytes that lie beside an append
unfoldable pub operation_effect : Shape → State → ℕ → ℕ → Operation → List ℕ → Fate → List ℕ → Result
operation_effect h x s i o bs f given =
    let v = server_at x.records s in
    let m = medium_at h.places i x.media in
    let m' = medium_after (declines (prepares o) h.places v.session (mark_at v i) m) f given (writes_of h.places bs o m) m in
    let n = mark_of h.places m' in
    let w = counted (appends o) h.replicas v.phase (after_message f v i n) in
    record {
      state = with_medium_and_server h.places x s i m' w;
      reply = reply_to f (ok (cond (appends o && is_open v.phase) w.acked n ∷ []));
      bytes = no_bytes;
    }

abbrev pub operated : Shape → State → ℕ → ℕ → Operation → List ℕ → Fate → List ℕ → Result
operated h x s i o bs f given =
    let v = server_at x.records s in
    rest (received_by h.places v i o (medium_at h.places i x.media) f) x (operation_effect h x s i o bs f given)

-- what the admission of a call leaves known of server v and replica i, with media of so many bytes
pub record Named (h : Shape) (v : Server) (i bytes : ℕ) : Type 0 where
  pub least : 1 ≤ h.places
  pub few : h.places ≤ places_limit
  pub replicas : h.replicas ≤ 7
  pub replica : i < h.replicas
  pub within : i * medium_size h.places + medium_size h.places ≤ bytes
  pub mark : mark_at v i ≤ h.places
  pub issued : v.issued ≤ h.places
