-- trim: the log becomes a part of itself that reaches the decided mark, as far as the wiping came; a silent replica is forgotten.
-- Assumes nothing.
use mathlib.Core.Path.{◌≡◌, refl, sym, ◌∙◌}
use mathlib.Core.Bool.{Bool, true, false, cond, true≢false}
use mathlib.Core.List.{List}
use Prim.Native.Nat.{ℕ, ◌<◌}
use native.Mathlib.Omega.{arith}
use borrow.Author.Tests.{ltb-true, not-false}
use Rattle.fate.specs.declared.Fate.{Fate}
use Rattle.storage.specs.Log.{mark_of}
use Rattle.storage.specs.Operations.{medium_at, with_medium, trim_writes}
use Rattle.protocol.specs.State as protocol
use Rattle.protocol.specs.Columns.{upd²}
use Rattle.protocol.specs.Events.{after_forget, after_trim, Can-trim}
use Rattle.protocol.proofs.Columns.{upd_same, upd_other, upd²_at}
use Rattle.protocol.proofs.Traces.{trim_answered, trim_silent}
use Rattle.cluster.specs.declared.Shape.{Shape}
use Rattle.cluster.specs.declared.Phase.TheVariants.{Opening}
use Rattle.cluster.specs.declared.Server.{Server}
use Rattle.cluster.specs.declared.Call.TheVariants as call
use Rattle.cluster.specs.State.{State, server_at, mark_at, active_at}
use Rattle.cluster.specs.Refusals.{answered, refuses_at, vote_mark}
use Rattle.cluster.specs.Effects.{heard, unheard, medium_after, with_medium_and_server, trim_effect}
use Rattle.guarantee.specs.History.{Element, History, told}
use Rattle.guarantee.proofs.Ties.{Sim, Goes, ReplicaTie, ReplicasTie, OpeningTie, copy_of, row_of}
use Rattle.guarantee.proofs.Frames.{replica_frame}
use Rattle.guarantee.proofs.Passing.{below_four, is_opening_lem}
use Rattle.guarantee.proofs.Counts.{vote_tie}
use Rattle.guarantee.proofs.Operations.{trimmed, trimmed_tie}
use Rattle.guarantee.proofs.Messages.{Message, message_of, agrees, accepts}
use Rattle.guarantee.proofs.Hearing.{only_none, only_set, opening_told, opening_forgets, opening_silent}
use Rattle.guarantee.proofs.Played.{with_call_lem, Before, Played}

module _ (h : Shape) (x : State) (H : History) (σ : protocol.State) (beside : Element) (s i : ℕ) (f : Fate)
    (B : Before h x H σ (with_call_lem (call.Trim s i f) beside)) where
  abbrev given : List ℕ
  given = beside.input.given

  S : Sim h x H σ
  S = B.sim

  M : Message h x s i f given
  M =
      message_of h x s i f given B.range (B.covered.fits.given refl) (B.passed 2) (below_four s (B.passed 3)) (B.passed 4) (B.passed 6)

  abbrev v : Server
  v = server_at x.records s

  abbrev z : ℕ
  z = v.session

  abbrev m : List ℕ
  m = medium_at h.places i x.media

  abbrev D : ℕ
  D = vote_mark h.replicas v

  opening : v.phase ≡ Opening
  opening = is_opening_lem v.phase (B.passed 5)

  row : OpeningTie h.replicas v (row_of σ z)
  row = (S.servers.each s M.server).opening opening

  T : ReplicaTie h.places m (H.standing i) (copy_of σ i)
  T = S.replicas.each i M.replica

  known : σ.known z i ≡ true
  known = sym (row.known i M.replica) ∙ not-false (active_at v i) (B.passed 7)

  -- how far the wiping came
  k : ℕ
  k = (trimmed h.places f given m (H.standing i) (copy_of σ i) T M.harmless D).shortened.upto

  -- a replica that does not decline
  module _ (e : refuses_at h.places v x.media i ≡ false) where
    can : Can-trim σ z i D k
    unfolding k
    can =
        let A = agrees h.places v i m e in
        let a = (trimmed h.places f given m (H.standing i) (copy_of σ i) T M.harmless D).shortened in
        let above : D < mark_at v i = ltb-true D (mark_at v i) (not-false _ (B.passed 16)) in
        record {
          phase = row.phase;
          decided = vote_tie h.replicas σ z S.R S.Q v row (B.passed 8);
          known = known;
          promise = sym T.promise ∙ A.promise;
          above = omega (arith, a.reaches, A.mark);
          down = omega (arith, a.within, T.mark);
        }

  -- what the message leaves, if the replica declines and if not
  abbrev left : Bool → List ℕ
  left c = medium_after c f given (trim_writes h.places D m) m

  cut_tie : ReplicaTie h.places (left false) (H.standing i) (copy_of (after_trim σ z i k) i)
  unfolding k
  cut_tie = rw (upd_same σ.mark i k) (trimmed_tie h.places f given m (H.standing i) (copy_of σ i) T M.harmless D)

  cut : ReplicasTie h.replicas h.places (with_medium h.places i (left false) x.media) H.standing (copy_of (after_trim σ z i k))
  cut =
      replica_frame h.replicas h.places x.media H.standing (copy_of σ) S.replicas i M.replica (left false)
      H.standing (copy_of (after_trim σ z i k)) (λ j n. refl) (λ j n. rw (upd_other σ.mark i k j n)) cut_tie

  goes : (c b : Bool) → refuses_at h.places v x.media i ≡ c → answered f ≡ b
      → Goes h σ (with_medium_and_server h.places x s i (left c) (cond b (heard v i (mark_of h.places (left c))) (unheard v i))) H
  goes true true e a =
      absurd (true≢false (sym e ∙ accepts h.places v x.media i f (B.passed 18) (B.passed 19) (B.passed 20) a))
  goes true false e a = opening_silent h x H σ S s i f given M opening m T
  goes false true e a = (
    after_trim σ z i k,
    trim_answered σ z i D k (can e),
    record {
      R = S.R;
      Q = S.Q;
      register = S.register;
      replicas = cut;
      servers =
          opening_told h x H σ S s i f given M opening true (mark_of h.places (left false)) σ.known (upd² σ.recorded z i k)
          (only_none σ.known z i) (only_set σ.recorded z i k) known
          (λ q. cut_tie.mark ∙ upd_same σ.mark i k ∙ sym (upd²_at σ.recorded z i k z i refl refl));
      sessions = S.sessions;
    },
  )
  goes false false e a = (
    after_forget (after_trim σ z i k) z i,
    trim_silent σ z i D k (can e),
    record {
      R = S.R;
      Q = S.Q;
      register = S.register;
      replicas = cut;
      servers =
          opening_forgets h x H σ S s i f given M opening σ.known (upd² σ.recorded z i k) (only_none σ.known z i)
          (only_set σ.recorded z i k);
      sessions = S.sessions;
    },
  )

  pub trim_played : Played h x H σ (with_call_lem (call.Trim s i f) beside)
  unfolding told trim_effect
  trim_played = goes (refuses_at h.places v x.media i) (answered f) refl refl
