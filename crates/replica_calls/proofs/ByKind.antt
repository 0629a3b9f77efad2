-- prepare, trim, note and send are their rows and their operation.
-- Assumes nothing.
use mathlib.Core.Path.{◌≡◌, refl, sym, ap, ◌∙◌}
use mathlib.Core.Bool.{false, ◌||◌, and-false, or-false}
use mathlib.Core.List.{List, [], ◌∷◌, ◌++◌}
use Prim.Native.Nat.{ℕ, ◌+◌}
use Rattle.std.specs.Prelude.{Result, Ok, Err}
use Rattle.fate.specs.declared.Fate.{Fate}
use Rattle.storage.specs.declared.operation.Operation.{Operation}
use Rattle.storage.specs.Operations.{medium_at}
use Rattle.cluster.specs.declared.Shape.{Shape}
use Rattle.cluster.specs.declared.Server.{Server}
use Rattle.cluster.specs.State.{State, server_at, mark_at, record_of}
use Rattle.cluster.specs.Refusals.{no_replica_at, no_slot, promise_above, answered, seen, replica_rows, prepared_rows, checks_of, pass, first_of}
use Rattle.cluster.specs.Effects as effects
use Rattle.cluster.specs.Effects.{prepare_effect, trim_effect, note_effect, append_effect}
use Rattle.cluster.specs.Step.{effect, rest, once_admitted, once_sent, step}
use Rattle.cluster.specs.declared.Records.{Records}
use Rattle.cluster.specs.declared.Refusal.{Refusal}
use Rattle.checks.specs.declared.Change.{Change}
use Rattle.checks.specs.Results.{state_of, input_of, result_of, changed, unchanged}
use Rattle.checks.proofs.Frame.{refused, goes_on, declined_server}
use Rattle.cluster.proofs.Rows.{passed}
use Rattle.storage.specs.Operations.{HasPlace}
use Rattle.replica.specs.Answers.{Behind}
use Rattle.replica_calls.proofs.Known.{send_room}
use Rattle.plans.specs.declared.Kind.{Kind}
use Rattle.plans.specs.declared.Kind.TheVariants.{Prepare, Trim, Note, Send}
use Rattle.plans.specs.Plans.{call_of, phases_of, sending_rows, operation_of, Planned}
use Rattle.delivery.specs.Messages.{operation_effect, operated, Named}

-- the record that follows replica i's mark: a send appends it
abbrev following : Server → ℕ → List ℕ
following v i = record_of v (mark_at v i + 1)

module _ (h : Shape) (x : State) (s i : ℕ) (f : Fate) (given : List ℕ) where
  abbrev v : Server
  v = server_at x.records s

  pub whole : (k : Kind) → step h x (input_of (call_of k s i f) given)
      ≡ rest (replica_rows h x s (no_replica_at h.replicas i) (phases_of k)
      ++ ((checks_of h x (input_of (call_of k s i f) given) (call_of k s i f)).sending ++ (checks_of h x (input_of (call_of k s i f) given) (call_of k s i f)).receiving))
      x (effect h x (input_of (call_of k s i f) given) (call_of k s i f))
  unfolding step
  whole Prepare = refl
  whole Trim = refl
  whole Note = refl
  whole Send = refl

  pub sending_is : (k : Kind) → (checks_of h x (input_of (call_of k s i f) given) (call_of k s i f)).sending ≡ sending_rows k h v i f given
  sending_is Prepare = refl
  sending_is Trim = refl
  sending_is Note = refl
  sending_is Send = refl

  -- prepare is not declined for the mark
  prepared : (m : List ℕ) → first_of (seen f 18 (no_slot m) ∷ seen f 19 (promise_above v.session m) ∷ seen f 20 false ∷ []) ≡ first_of (prepared_rows v.session m f)
  unfolding first_of
  prepared m = rw (and-false (answered f))

  pub sent_is : (k : Kind) → operated h x s i (operation_of k h.replicas v i) (following v i) f given ≡ once_sent h x (input_of (call_of k s i f) given)
  unfolding operation_effect prepare_effect trim_effect note_effect append_effect
  sent_is Prepare =
      let m = medium_at h.places i x.media in
      rw (prepared m, or-false (no_slot m || promise_above v.session m))
  sent_is Trim = refl
  sent_is Note = refl
  sent_is Send = refl

-- a call that is admitted, by the plan that is made for it and the server's record v that the code has in hand
module _ (h : Shape) (r : Records) (media tables : List ℕ) (s i : ℕ) (f : Fate) (given : List ℕ) (v : Server) (q : server_at r s ≡ v) (k : Kind) where
  abbrev y : State
  y = state_of r media tables

  abbrev Plans : Result Operation Refusal → Type 0
  Plans p = Planned p (first_of (sending_rows k h v i f given)) (operation_of k h.replicas v i)

  pub plan_refuses :
      (why : Refusal) {c : Change}
      → Plans (Err why)
      → c ≡ unchanged v why
      → result_of (changed r s c) media tables ≡ once_admitted h y (input_of (call_of k s i f) given)
  plan_refuses why {c} l d =
      rw (sending_is h y s i f given k)
      (refused r media tables _ (sending_rows k h (server_at r s) i f given) _ why {o = changed r s c} (rw q l.checked)
      (rw (d, ← q) (declined_server r s why)))

  pub plan_does :
      {o : Operation} {z : effects.Result} {bs : List ℕ}
      → Plans (Ok o)
      → bs ≡ following v i
      → z ≡ operated h y s i o bs f given
      → z ≡ once_admitted h y (input_of (call_of k s i f) given)
  plan_does {o} {z} {bs} l same_bytes d =
      let same : o ≡ operation_of k h.replicas (server_at r s) i = l.does o refl ∙ ap (λ (w : Server). operation_of k h.replicas w i) (sym q) in
      let bytes_are : bs ≡ following (server_at r s) i = same_bytes ∙ ap (λ (w : Server). following w i) (sym q) in
      rw (sending_is h y s i f given k)
      (goes_on r media tables _ (sending_rows k h (server_at r s) i f given) _ (rw q l.checked)
      (d ∙ ap (λ (u : Operation). operated h y s i u bs f given) same
      ∙ ap (λ (b : List ℕ). operated h y s i (operation_of k h.replicas (server_at r s) i) b f given) bytes_are
      ∙ sent_is h y s i f given k))

-- the operation of a plan is one for the replica's medium: 16 of send leaves room for a record
fits_operation :
    (k : Kind) (h : Shape) (v : Server) (i bytes : ℕ) (f : Fate) (given : List ℕ)
    → Named h v i bytes
    → first_of (sending_rows k h v i f given) ≡ pass
    → let o = operation_of k h.replicas v i in HasPlace h.places o × Behind (mark_at v i) o
fits_operation Prepare h v i bytes f given n e = (tt, tt)
fits_operation Trim h v i bytes f given n e = (tt, tt)
fits_operation Note h v i bytes f given n e = (tt, tt)
fits_operation Send h v i bytes f given n e = (send_room v (mark_at v i) h.places (passed (sending_rows Send h v i f given) e 16) n.issued, refl)

pub fits_kind :
    (k : Kind) (h : Shape) (v : Server) (i bytes : ℕ) (f : Fate) (given : List ℕ)
    → Named h v i bytes
    → {o : Operation}
    → Planned (Ok o) (first_of (sending_rows k h v i f given)) (operation_of k h.replicas v i)
    → HasPlace h.places o × Behind (mark_at v i) o
fits_kind k h v i bytes f given n {o} l = rw (l.does o refl) (fits_operation k h v i bytes f given n (sym l.checked))
