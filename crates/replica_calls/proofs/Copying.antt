-- copy is its rows and an append of what the source holds.
-- Assumes nothing.
use mathlib.Core.Path.{◌≡◌, refl, sym, ap, ◌∙◌}
use mathlib.Core.List.{List, ◌++◌}
use Prim.Native.Nat.{ℕ, ◌+◌}
use Rattle.fate.specs.declared.Fate.{Fate}
use Rattle.storage.specs.declared.operation.Operation.TheVariants as op
use Rattle.storage.specs.Log.{place_at}
use Rattle.storage.specs.Operations.{medium_at}
use Rattle.cluster.specs.declared.Shape.{Shape}
use Rattle.cluster.specs.declared.Records.{Records}
use Rattle.cluster.specs.declared.Refusal.{Refusal}
use Rattle.cluster.specs.declared.Server.{Server}
use Rattle.cluster.specs.declared.Call.TheVariants as call
use Rattle.cluster.specs.State.{State, server_at, mark_at}
use Rattle.cluster.specs.Replies.{number_of, values_of}
use Rattle.cluster.specs.Refusals.{Input, not_two, opening_or_open, replica_rows, copy_rows, checks_of, pass, declined, first_of}
use Rattle.cluster.specs.Effects.{Result, append_effect}
use Rattle.cluster.specs.Step.{effect, rest, once_admitted, once_sent, step}
use Rattle.checks.specs.declared.Change.{Change}
use Rattle.checks.specs.Results.{state_of, input_of, result_of, changed, unchanged}
use Rattle.checks.proofs.Frame.{refused, goes_on, declined_server}
use Rattle.delivery.specs.Messages.{operation_effect, operated}

module _ (h : Shape) (x : State) (s a b : ℕ) (f : Fate) (given : List ℕ) where
  abbrev p : Input
  p = input_of (call.Copy s a b f) given

  pub copy_whole : step h x p ≡ rest (replica_rows h x s (not_two h.replicas a b) opening_or_open
      ++ ((checks_of h x p (call.Copy s a b f)).sending ++ (checks_of h x p (call.Copy s a b f)).receiving)) x (effect h x p (call.Copy s a b f))
  unfolding step
  copy_whole = refl

  copy_sent : operated h x s b (op.Append (mark_at (server_at x.records s) b)) (place_at (mark_at (server_at x.records s) b + 1) (medium_at h.places a x.media)) f given ≡ once_sent h x p
  unfolding operation_effect append_effect
  copy_sent = refl

module _ (h : Shape) (r : Records) (media tables : List ℕ) (s a b : ℕ) (f : Fate) (given : List ℕ) (v : Server) (q : server_at r s ≡ v) where
  pub copy_refuses :
      (why : Refusal) {c : Change}
      → declined (number_of why) (values_of why) ≡ first_of (copy_rows h v media a b f given)
      → c ≡ unchanged v why
      → result_of (changed r s c) media tables ≡ once_admitted h (state_of r media tables) (input_of (call.Copy s a b f) given)
  copy_refuses why {c} l d =
      refused r media tables _ (copy_rows h (server_at r s) media a b f given) _ why {o = changed r s c} (rw q l) (rw (d, ← q) (declined_server r s why))

  pub copy_does :
      {bs : List ℕ} {z : Result}
      → pass ≡ first_of (copy_rows h v media a b f given)
      → bs ≡ place_at (mark_at v b + 1) (medium_at h.places a media)
      → z ≡ operated h (state_of r media tables) s b (op.Append (mark_at v b)) bs f given
      → z ≡ once_admitted h (state_of r media tables) (input_of (call.Copy s a b f) given)
  copy_does {bs} {z} l t d =
      let mark : mark_at v b ≡ mark_at (server_at r s) b = ap (λ (w : Server). mark_at w b) (sym q) in
      let place : bs ≡ place_at (mark_at (server_at r s) b + 1) (medium_at h.places a media) = t ∙ ap (λ (n : ℕ). place_at (n + 1) (medium_at h.places a media)) mark in
      goes_on r media tables _ (copy_rows h (server_at r s) media a b f given) _ (rw q l)
      (d ∙ ap (λ (n : ℕ). operated h (state_of r media tables) s b (op.Append n) bs f given) mark
      ∙ ap (λ (c : List ℕ). operated h (state_of r media tables) s b (op.Append (mark_at (server_at r s) b)) c f given) place
      ∙ copy_sent h (state_of r media tables) s a b f given)
