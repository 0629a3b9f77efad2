-- prepare: nothing is written yet, or the promise and then a part of the log is left, as far as the wiping came; a silent replica is forgotten.
-- Assumes nothing.
use mathlib.Core.Path.{◌≡◌, refl, sym, ◌∙◌}
use mathlib.Core.Logic.{⊎_elim}
use mathlib.Core.Bool.{Bool, true, false, cond, true≢false}
use mathlib.Core.List.{List}
use Prim.Native.Nat.{ℕ, ◌^◌, ◌≤◌, ◌<◌}
use native.Mathlib.Omega.{arith}
use borrow.Author.Tests.{ltb-false}
use Rattle.base.proofs.Tests.{neither}
use Rattle.fate.specs.declared.Fate.{Fate}
use Rattle.storage.specs.declared.operation.Target.{Target}
use Rattle.cluster.specs.declared.Closing.{Closing}
use Rattle.cluster.specs.declared.Closing.TheVariants.{Unresolved, Mark, Restored}
use Rattle.storage.specs.Slots.{stored_slot}
use Rattle.storage.specs.Log.{mark_of}
use Rattle.storage.specs.Operations.{closed_mark, medium_at, with_medium, prepare_writes}
use Rattle.protocol.specs.State as protocol
use Rattle.protocol.specs.Columns.{upd, upd²}
use Rattle.protocol.specs.Events.{after_learn}
use Rattle.protocol.proofs.Columns.{upd_same, upd_other, upd²_at}
use Rattle.protocol.proofs.Traces.{prepared, prepare_silent, prepare_answered}
use Rattle.cluster.specs.declared.Shape.{Shape}
use Rattle.cluster.specs.declared.Phase.TheVariants.{Opening}
use Rattle.cluster.specs.declared.Server.{Server}
use Rattle.cluster.specs.declared.Call.TheVariants as call
use Rattle.cluster.specs.State.{State, server_at, entry_at, is_restored}
use Rattle.cluster.specs.Refusals.{answered, no_slot, promise_above, refuses_prepare}
use Rattle.cluster.specs.Effects.{target_of, heard, unheard, medium_after, with_medium_and_server, prepare_effect}
use Rattle.guarantee.specs.History.{Element, History, told}
use Rattle.guarantee.proofs.Ties.{Sim, Goes, ReplicaTie, ReplicasTie, OpeningTie, is_unresolved, copy_of, row_of}
use Rattle.guarantee.proofs.Frames.{replica_frame}
use Rattle.guarantee.proofs.Passing.{below_four, is_opening_lem}
use Rattle.guarantee.proofs.Operations.{closed_le, prepared_tie, answered_tie}
use Rattle.guarantee.proofs.Messages.{Message, message_of, accepts_prepare, is_answered_lem}
use Rattle.guarantee.proofs.Hearing.{only_none, only_set, only_then, opening_told, opening_forgets, opening_silent}
use Rattle.guarantee.proofs.Played.{with_call_lem, Before, Played}

-- an unresolved replica keeps its log, a closed one no more than its closing mark, and a restored one no more than its low-water mark
kept_mark : (to : Closing) (low n : ℕ) → is_unresolved to ≡ true → closed_mark low (target_of to) n ≡ n
kept_mark Unresolved low n e = refl
kept_mark (Mark c) low n e = absurd (true≢false (sym e))
kept_mark Restored low n e = absurd (true≢false (sym e))

closed_mark_lem : (to : Closing) (low n : ℕ) → is_restored to ≡ false → is_unresolved to ≡ false → (c : ℕ) × (to ≡ Mark c) × (closed_mark low (target_of to) n ≤ c)
closed_mark_lem Unresolved low n r e = absurd (true≢false e)
closed_mark_lem (Mark c) low n r e = (c, refl, omega arith)
closed_mark_lem Restored low n r e = absurd (true≢false r)

low_mark : (to : Closing) (low n : ℕ) → is_restored to ≡ true → closed_mark low (target_of to) n ≤ low
low_mark Unresolved low n r = absurd (true≢false (sym r))
low_mark (Mark c) low n r = absurd (true≢false (sym r))
low_mark Restored low n r = omega arith

module _ (h : Shape) (x : State) (H : History) (σ : protocol.State) (beside : Element) (s i : ℕ) (f : Fate)
    (B : Before h x H σ (with_call_lem (call.Prepare s i f) beside)) where
  abbrev given : List ℕ
  given = beside.input.given

  S : Sim h x H σ
  S = B.sim

  M : Message h x s i f given
  M =
      message_of h x s i f given B.range (B.covered.fits.given refl) (B.passed 2) (below_four s (B.passed 3)) (B.passed 4) (B.passed 6)

  abbrev v : Server
  v = server_at x.records s

  abbrev z : ℕ
  z = v.session

  abbrev m : List ℕ
  m = medium_at h.places i x.media

  abbrev closing : Closing
  closing = (entry_at v.entries i).closing

  abbrev to : Target
  to = target_of closing

  opening : v.phase ≡ Opening
  opening = is_opening_lem v.phase (B.passed 5)

  row : OpeningTie h.replicas v (row_of σ z)
  row = (S.servers.each s M.server).opening opening

  T : ReplicaTie h.places m (H.standing i) (copy_of σ i)
  T = S.replicas.each i M.replica

  session_fits : z < 2 ^ 64
  session_fits = omega (arith, (B.inv.taken z row.phase).taken, S.register.session, S.register.fits)

  -- what the message leaves, if the replica declines and if not
  abbrev left : Bool → List ℕ
  left c = medium_after c f given (prepare_writes h.places z to m) m

  -- the log wiped down to k
  module _ (k : ℕ) where
    abbrev τ : protocol.State
    τ = prepared σ z i k

    wiped : ReplicaTie h.places (left false) (H.standing i) (record { promise = z; mark = k; place = σ.place i; low = σ.low i })
        → ReplicasTie h.replicas h.places (with_medium h.places i (left false) x.media) H.standing (copy_of τ)
    wiped t =
        replica_frame h.replicas h.places x.media H.standing (copy_of σ) S.replicas i M.replica (left false)
        H.standing (copy_of τ) (λ j n. refl) (λ j n. rw (upd_other σ.promise i z j n, upd_other σ.mark i k j n))
        (rw (upd_same σ.promise i z, upd_same σ.mark i k) t)

  -- a replica that does not decline
  module _ (e : refuses_prepare z m ≡ false) where
    stored : (stored_slot m).promise ≤ z
    unfolding promise_above
    stored = ltb-false z (stored_slot m).promise (neither (no_slot m) (promise_above z m) e).1

    below : σ.promise i ≤ z
    below = omega (arith, stored, T.promise)

    -- the mark that is left when the truncation comes to its end
    abbrev end : ℕ
    end = closed_mark (σ.low i) to (σ.mark i)

    kept : (k : ℕ) → end ≤ k → σ.handed_restored z i ≡ false → σ.handed_unresolved z i ≡ true → σ.mark i ≤ k
    kept k l r u = omega (arith, kept_mark closing (σ.low i) (σ.mark i) (row.unresolved i M.replica r ∙ u))

    whole : σ.handed_restored z i ≡ false → σ.handed_unresolved z i ≡ false → end ≤ σ.handed_closing z i
    whole r u =
        let c = closed_mark_lem closing (σ.low i) (σ.mark i) (row.restored i M.replica ∙ r) (row.unresolved i M.replica r ∙ u) in
        omega (arith, c.2, row.closing i c.0 M.replica c.1)

    low : σ.handed_restored z i ≡ true → end ≤ σ.low i
    low r = low_mark closing (σ.low i) (σ.mark i) (row.restored i M.replica ∙ r)

  goes : (c b : Bool) → refuses_prepare z m ≡ c → answered f ≡ b
      → Goes h σ (with_medium_and_server h.places x s i (left c) (cond b (heard v i (mark_of h.places (left c))) (unheard v i))) H
  goes true true e a =
      absurd (true≢false (sym e ∙ accepts_prepare z m f (B.passed 18) (B.passed 19) a))
  goes true false e a = opening_silent h x H σ S s i f given M opening m T
  goes false true e a =
      let t =
      answered_tie h.places f given m (H.standing i) (copy_of σ i) T M.harmless z to (stored e) session_fits (is_answered_lem f a) in
      let k = closed_mark (σ.low i) to (σ.mark i) in
      let unknown = upd² σ.known z i false in (
        after_learn (prepared σ z i k) z i,
        prepare_answered σ z i k row.phase (below e) (kept e k (omega arith)) (closed_le (σ.low i) to (σ.mark i)) (whole e) (low e),
        record {
          R = S.R;
          Q = S.Q;
          register = S.register;
          replicas = wiped k t;
          servers =
              opening_told h x H σ S s i f given M opening true (mark_of h.places (left false)) (upd² unknown z i true)
              (upd² σ.recorded z i (upd σ.mark i k i))
              (only_then σ.known unknown (upd² unknown z i true) z i (only_set σ.known z i false) (only_set unknown z i true))
              (only_set σ.recorded z i (upd σ.mark i k i)) (upd²_at unknown z i true z i refl refl)
              (λ q. t.mark ∙ sym (upd_same σ.mark i k) ∙ sym (upd²_at σ.recorded z i (upd σ.mark i k i) z i refl refl));
          sessions = S.sessions;
        },
      )
  goes false false e a =
      ⊎_elim (opening_silent h x H σ S s i f given M opening (left false))
      (λ w.
      let k = w.upto in (
        prepared σ z i k,
        prepare_silent σ z i k row.phase (below e) (kept e k w.reaches) w.down,
        record {
          R = S.R;
          Q = S.Q;
          register = S.register;
          replicas = wiped k w.tie;
          servers =
              opening_forgets h x H σ S s i f given M opening σ.known σ.recorded (only_none σ.known z i) (only_none σ.recorded z i);
          sessions = S.sessions;
        },
      ))
      (prepared_tie h.places f given m (H.standing i) (copy_of σ i) T M.harmless z to (stored e) session_fits)

  pub prepare_played : Played h x H σ (with_call_lem (call.Prepare s i f) beside)
  unfolding told prepare_effect
  prepare_played = goes (refuses_prepare z m) (answered f) refl refl
