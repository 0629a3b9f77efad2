-- note: log and promise stay, and so does the recorded mark. The event is there where the slot that is written becomes the current one.
-- Assumes nothing.
use mathlib.Core.Path.{◌≡◌, refl, sym, ◌∙◌}
use mathlib.Core.Logic.{⊎_elim, ◌≢◌}
use mathlib.Core.Bool.{Bool, true, false, true≢false}
use mathlib.Core.List.{List}
use Prim.Native.Nat.{ℕ, ◌^◌, ◌<◌}
use native.Mathlib.Omega.{arith}
use borrow.Author.Tests.{not-false}
use Rattle.fate.specs.declared.Fate.{Fate}
use Rattle.storage.specs.Log.{mark_of}
use Rattle.storage.specs.Operations.{medium_at, note_writes}
use Rattle.protocol.specs.State as protocol
use Rattle.protocol.specs.Columns.{upd}
use Rattle.protocol.specs.With.{with_low}
use Rattle.protocol.specs.Events.{after_note, Can-note, Steps}
use Rattle.protocol.proofs.Columns.{upd_same, upd_other}
use Rattle.protocol.proofs.Traces.{noted}
use Rattle.cluster.specs.declared.Shape.{Shape}
use Rattle.cluster.specs.declared.Phase.TheVariants.{Open}
use Rattle.cluster.specs.declared.Server.{Server}
use Rattle.cluster.specs.declared.Call.TheVariants as call
use Rattle.cluster.specs.State.{State, server_at, mark_at, active_at, table_at}
use Rattle.cluster.specs.Refusals.{answered, refuses_at}
use Rattle.cluster.specs.Effects.{medium_after, after_message, with_medium_and_server, note_effect}
use Rattle.guarantee.specs.History.{Element, History, told}
use Rattle.guarantee.proofs.Ties.{Sim, Goes, ReplicaTie, OpenTie, copy_of, row_of}
use Rattle.guarantee.proofs.Frames.{replica_frame}
use Rattle.guarantee.proofs.Passing.{below_four, is_open_lem}
use Rattle.guarantee.proofs.Operations.{noted_mark, noted_tie}
use Rattle.guarantee.proofs.Messages.{Message, message_of, agrees, accepts}
use Rattle.guarantee.proofs.Hearing.{open_kept, of_member}
use Rattle.guarantee.proofs.Played.{with_call_lem, Before, Played}

module _ (h : Shape) (x : State) (H : History) (σ : protocol.State) (beside : Element) (s i : ℕ) (f : Fate)
    (B : Before h x H σ (with_call_lem (call.Note s i f) beside)) where
  abbrev given : List ℕ
  given = beside.input.given

  S : Sim h x H σ
  S = B.sim

  M : Message h x s i f given
  M =
      message_of h x s i f given B.range (B.covered.fits.given refl) (B.passed 2) (below_four s (B.passed 3)) (B.passed 4) (B.passed 6)

  abbrev v : Server
  v = server_at x.records s

  abbrev m : List ℕ
  m = medium_at h.places i x.media

  abbrev z : ℕ
  z = v.session

  T : ReplicaTie h.places m (H.standing i) (copy_of σ i)
  T = S.replicas.each i M.replica

  opens : v.phase ≡ Open
  opens = is_open_lem v.phase (B.passed 5)

  active : active_at v i ≡ true
  active = not-false (active_at v i) (B.passed 7)

  row : OpenTie h.replicas v (table_at s x.tables) (row_of σ z)
  row = (S.servers.each s M.server).serving opens

  start_fits : v.start < 2 ^ 64
  start_fits = omega (arith, B.range.most, M.within.start)

  mark_fits : mark_at v i < 2 ^ 64
  mark_fits = omega (arith, B.range.most, M.within.marks i M.replica)

  -- what the message leaves, if the replica declines and if not
  abbrev left : Bool → List ℕ
  left c = medium_after c f given (note_writes v.start (mark_at v i) m) m

  left_mark : (c : Bool) → refuses_at h.places v x.media i ≡ c → answered f ≡ true → mark_of h.places (left c) ≡ mark_at v i
  left_mark true e a =
      absurd (true≢false (sym e ∙ accepts h.places v x.media i f (B.passed 18) (B.passed 19) (B.passed 20) a))
  left_mark false e a =
      noted_mark h.places f given m (H.standing i) (copy_of σ i) T M.harmless v.start (mark_at v i) start_fits mark_fits
      ∙ (agrees h.places v i m e).mark

  -- with low-water marks of which that of i alone may be another one
  left_sim : (low : ℕ → ℕ) → ((j : ℕ) → i ≢ j → low j ≡ σ.low j) → (c : Bool) → refuses_at h.places v x.media i ≡ c
      → ReplicaTie h.places (left c) (H.standing i) (copy_of (with_low σ low) i)
      → Sim h (with_medium_and_server h.places x s i (left c) (after_message f v i (mark_of h.places (left c)))) H (with_low σ low)
  left_sim low others c e t =
      record {
        R = S.R;
        Q = S.Q;
        register = S.register;
        replicas =
            replica_frame h.replicas h.places x.media H.standing (copy_of σ) S.replicas i M.replica (left c)
            H.standing (copy_of (with_low σ low)) (λ j n. refl) (λ j n. rw (others j n)) t;
        servers = open_kept h x H σ S s i f given M opens active (mark_of h.places (left c)) (left_mark c e);
        sessions = S.sessions;
      }

  can : refuses_at h.places v x.media i ≡ false → Can-note σ z i
  can e =
      record {
        phase = row.phase;
        member = of_member h x H σ S s i f given M opens active;
        promise = sym T.promise ∙ (agrees h.places v i m e).promise;
      }

  goes : (c : Bool) → refuses_at h.places v x.media i ≡ c
      → Goes h σ (with_medium_and_server h.places x s i (left c) (after_message f v i (mark_of h.places (left c)))) H
  goes true e = (σ, Steps.none, left_sim σ.low (λ j n. refl) true e T)
  goes false e =
      ⊎_elim
      (λ t. (σ, Steps.none, left_sim σ.low (λ j n. refl) false e t))
      (λ t. (
        after_note σ z i,
        noted σ z i (can e),
        left_sim (upd σ.low i (σ.start z)) (λ j n. upd_other σ.low i (σ.start z) j n) false e
            (rw (upd_same σ.low i (σ.start z), ← row.start) t),
      ))
      (noted_tie h.places f given m (H.standing i) (copy_of σ i) T M.harmless v.start (mark_at v i) start_fits mark_fits)

  pub note_played : Played h x H σ (with_call_lem (call.Note s i f) beside)
  unfolding told note_effect
  note_played = goes (refuses_at h.places v x.media i) refl
