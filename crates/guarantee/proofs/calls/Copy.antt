-- copy: what stands in a's place behind b's log comes into b's, or b's log stays. While opening a silent b is forgotten; an open server computes the
-- acknowledged mark anew, as after a send.
-- Assumes nothing.
use mathlib.Core.Path.{◌≡◌, refl, sym, ap, ◌∙◌, subst⁻¹}
use mathlib.Core.Logic.{◌≢◌, ⊎_elim}
use mathlib.Core.Bool.{Bool, true, false, not, cond, ◌||◌, true≢false}
use mathlib.Core.List.{List, [], ◌∷◌}
use Prim.Native.Nat.{ℕ, suc, max, ◌+◌, ◌≤◌, ◌<◌}
use native.Mathlib.Omega.{arith}
use lib.ListN.{set}
use lib.Dec.{leb, eqb}
use borrow.Author.Tests.{leb-false, ltb-true, not-false}
use Rattle.base.proofs.Tests.{neither}
use Rattle.fate.specs.declared.Fate.{Fate}
use Rattle.storage.specs.Places.{valid_place}
use Rattle.storage.specs.Log.{place_at, mark_of}
use Rattle.storage.specs.Operations.{medium_at, append_writes}
use Rattle.storage.proofs.Scan.{mark_le}
use Rattle.protocol.specs.State as protocol
use Rattle.protocol.specs.State.{Tx}
use Rattle.protocol.specs.Columns.{upd², append_mark, append_place}
use Rattle.protocol.specs.With.{with_replicas, with_servers}
use Rattle.protocol.specs.Events.{after_append, Can-copy, Steps}
use Rattle.protocol.proofs.Columns.{upd_same, upd²_at}
use Rattle.protocol.proofs.Facts.{unopened}
use Rattle.protocol.proofs.Traces.{forgotten, copy_answered, copy_silent, copy_is_send}
use Rattle.cluster.specs.declared.Shape.{Shape}
use Rattle.cluster.specs.declared.Phase.{Phase}
use Rattle.cluster.specs.declared.Phase.TheVariants.{Opening, Open}
use Rattle.cluster.specs.declared.Server.{Server}
use Rattle.cluster.specs.declared.Call.TheVariants as call
use Rattle.cluster.specs.State.{State, server_at, mark_at, active_at, table_at}
use Rattle.cluster.specs.Replies.{ok}
use Rattle.cluster.specs.Refusals.{answered, is_open, refuses_at, restored_source}
use Rattle.cluster.specs.Effects.{heard, unheard, acknowledge, medium_after, after_message, reply_to, with_medium_and_server, append_effect}
use Rattle.guarantee.specs.History.{Element, Session, History, set_at, value_or, once_opened, put, acknowledging, told}
use Rattle.guarantee.proofs.Sessions.{set_at_same, set_at_other}
use Rattle.guarantee.proofs.Ties.{Sim, Goes, ReplicaTie, OpeningTie, OpenTie, ServersTie, SessionsTie, copy_of, row_of, story_of}
use Rattle.guarantee.proofs.Frames.{replica_frame, session_frame}
use Rattle.guarantee.proofs.Passing.{below_four, not_idle}
use Rattle.guarantee.proofs.Facts.{opening_lives, valid_place_lem}
use Rattle.guarantee.proofs.Operations.{Grown}
use Rattle.guarantee.proofs.Messages.{Message, message_of, agrees, accepts, is_answered_lem, active_member}
use Rattle.guarantee.proofs.Hearing.{only_none, only_set, opening_told, opening_forgets}
use Rattle.guarantee.proofs.Standing.{standing_after, put_kept, put_grown, append_others, append_cases}
use Rattle.guarantee.proofs.Appending.{open_append}
use Rattle.guarantee.proofs.Played.{with_call_lem, Before, Played}

-- a session that is not opened acknowledges nothing
module _ (h : Shape) (x : State) (H : History) (σ : protocol.State) (S : Sim h x H σ) (z n : ℕ) (o : σ.opened z ≡ false) where
  abbrev after : Session → Session
  after q =
      record {
        opened = q.opened;
        start = q.start;
        starting = q.starting;
        issues = q.issues;
        acknowledged = max q.acknowledged (once_opened q.opened n);
      }

  unopened_kept : SessionsTie (set_at H.sessions z (after (H.sessions z))) (story_of σ)
  unopened_kept =
      session_frame H.sessions (set_at H.sessions z (after (H.sessions z))) (story_of σ) (story_of σ) S.sessions z
      (λ u d. set_at_other H.sessions z (after (H.sessions z)) u d) (λ u d. refl)
      (rw (set_at_same H.sessions z (after (H.sessions z)))
      (record { opened = λ q. absurd (true≢false (sym q ∙ o)); before = λ q. ap after ((S.sessions z).before o) }))

module _ (h : Shape) (x : State) (H : History) (σ : protocol.State) (beside : Element) (s a b : ℕ) (f : Fate)
    (B : Before h x H σ (with_call_lem (call.Copy s a b f) beside)) where
  abbrev given : List ℕ
  given = beside.input.given

  S : Sim h x H σ
  S = B.sim

  abbrev v : Server
  v = server_at x.records s

  abbrev z : ℕ
  z = v.session

  abbrev source : List ℕ
  source = medium_at h.places a x.media

  abbrev m : List ℕ
  m = medium_at h.places b x.media

  numbers : (leb h.replicas a ≡ false) × (leb h.replicas b ≡ false)
  numbers =
      neither (leb h.replicas a) (leb h.replicas b) (neither (leb h.replicas a || leb h.replicas b) (eqb a b) (B.passed 4)).0

  within_a : a < h.replicas
  within_a = leb-false h.replicas a numbers.0

  M : Message h x s b f given
  M = message_of h x s b f given B.range (B.covered.fits.given refl) (B.passed 2) (below_four s (B.passed 3)) numbers.1 (B.passed 6)

  active_a : active_at v a ≡ true
  active_a = not-false (active_at v a) (neither (not (active_at v a)) (not (active_at v b)) (B.passed 7)).0

  active_b : active_at v b ≡ true
  active_b = not-false (active_at v b) (neither (not (active_at v a)) (not (active_at v b)) (B.passed 7)).1

  less : mark_at v b < mark_at v a
  less = ltb-true (mark_at v b) (mark_at v a) (not-false _ (B.passed 16))

  A : ReplicaTie h.places source (H.standing a) (copy_of σ a)
  A = S.replicas.each a within_a

  T : ReplicaTie h.places m (H.standing b) (copy_of σ b)
  T = S.replicas.each b M.replica

  -- 17; that a is not restored is not needed
  fit_source : refuses_at h.places v x.media a ≡ false
  fit_source = (neither (restored_source v a) (refuses_at h.places v x.media a) (B.passed 17)).1

  promise_a : σ.promise a ≡ z
  promise_a = sym A.promise ∙ (agrees h.places v a source fit_source).promise

  mark_a : mark_at v a ≡ σ.mark a
  mark_a = sym (agrees h.places v a source fit_source).mark ∙ A.mark

  -- the record that is copied
  abbrev bs : List ℕ
  bs = place_at (mark_at v b + 1) source

  accepted : answered f ≡ true → refuses_at h.places v x.media b ≡ false
  accepted =
      accepts h.places v x.media b f (B.passed 18) (B.passed 19)
      (B.passed 20)

  -- a replica that does not decline
  module _ (e : refuses_at h.places v x.media b ≡ false) where
    abbrev tx : Tx
    tx = σ.place a (suc (σ.mark b))

    promise_b : σ.promise b ≡ z
    promise_b = sym T.promise ∙ (agrees h.places v b m e).promise

    mark_b : mark_at v b ≡ σ.mark b
    mark_b = sym (agrees h.places v b m e).mark ∙ T.mark

    more : σ.mark b < σ.mark a
    more = omega (arith, less, mark_a, mark_b)

    room : σ.mark b < h.places
    room = omega (arith, more, A.mark, mark_le h.places source)

    behind : bs ≡ place_at (suc (σ.mark b)) source
    behind = let q : mark_at v b + 1 ≡ suc (σ.mark b) = omega (arith, mark_b) in ap (λ (n : ℕ). place_at n source) q

    bytes : bs ≡ tx.bytes
    bytes = behind ∙ A.bytes (suc (σ.mark b)) (omega arith) more

    valid : valid_place (suc (σ.mark b)) bs ≡ true
    valid = rw behind (valid_place_lem h.places source (suc (σ.mark b)) (omega arith) (omega (arith, more, A.mark)))

  -- ================ an open server

  open_played : v.phase ≡ Open → Played h x H σ (with_call_lem (call.Copy s a b f) beside)
  unfolding told
  open_played p =
      open_append h x H σ S B.inv s b f given M p active_b (H.standing a) bs accepted
      (λ e.
      record {
        tx = tx e;
        can =
            copy_is_send σ B.inv z a b row.phase (sym (row.member a within_a) ∙ active_member v a active_a) promise_a
            (sym (row.member b M.replica) ∙ active_member v b active_b) (promise_b e) (more e);
        bytes = bytes e;
        valid = valid e;
        room = room e;
        whose = A.whose (suc (σ.mark b)) (omega arith) (more e);
      })
      (λ n. once_opened (H.sessions (H.current s)).opened n) (λ n. no_more (H.sessions (H.current s)).opened n)
    where
      row : OpenTie h.replicas v (table_at s x.tables) (row_of σ z)
      row = (S.servers.each s M.server).serving p

      no_more : (q : Bool) (n : ℕ) → once_opened q n ≤ n
      no_more true n = omega arith
      no_more false n = omega arith

  -- ================ an opening server

  -- what the message leaves, if the replica declines and if not
  abbrev left : Bool → List ℕ
  left c = medium_after c f given (append_writes (mark_at v b) bs) m

  -- the state and the history, by the server's record and the value answered
  abbrev Result : Bool → Server → ℕ → Type 0
  Result c w n =
      let y = with_medium_and_server h.places x s b (left c) w in
      Goes h σ y (acknowledging (put h.places x y b (H.standing a) H) (H.current s) (cond (H.sessions (H.current s)).opened n 0))

  module _ (p : v.phase ≡ Opening) where
    row : OpeningTie h.replicas v (row_of σ z)
    row = (S.servers.each s M.server).opening p

    known_b : σ.known z b ≡ true
    known_b = sym (row.known b M.replica) ∙ active_b

    not_opened : σ.opened (H.current s) ≡ false
    not_opened =
        let q = (S.servers.each s M.server).current (opening_lives v p) in
        ap σ.opened q ∙ go (σ.opened z) refl
      where
        go : (o : Bool) → σ.opened z ≡ o → o ≡ false
        go true o = absurd (unopened σ B.inv z row.phase o)
        go false o = refl

    -- b's log, what is known of it and its recorded mark change
    built : (c : Bool) (w : Server) (n : ℕ) (mark : ℕ → ℕ) (place : ℕ → ℕ → Tx) (known : ℕ → ℕ → Bool) (recorded : ℕ → ℕ → ℕ)
        → let τ = with_servers (with_replicas σ σ.promise mark place) σ.phase known recorded in
        Steps σ τ → ((j : ℕ) → b ≢ j → copy_of τ j ≡ copy_of σ j)
        → ReplicaTie h.places (left c) (standing_after h.places x H b (left c) (H.standing a)) (copy_of τ b)
        → ServersTie h.replicas (set x.records.servers s w) x.tables H.current (row_of τ) → Result c w n
    built c w n mark place known recorded steps others tie servers = (
      with_servers (with_replicas σ σ.promise mark place) σ.phase known recorded,
      steps,
      record {
        R = S.R;
        Q = S.Q;
        register = S.register;
        replicas =
            replica_frame h.replicas h.places x.media H.standing (copy_of σ) S.replicas b M.replica (left c)
            (set_at H.standing b (standing_after h.places x H b (left c) (H.standing a)))
            (copy_of (with_servers (with_replicas σ σ.promise mark place) σ.phase known recorded))
            (λ j o. set_at_other H.standing b (standing_after h.places x H b (left c) (H.standing a)) j o) others
            (rw (set_at_same H.standing b (standing_after h.places x H b (left c) (H.standing a))) tie);
        servers = servers;
        sessions = unopened_kept h x H σ S (H.current s) n not_opened;
      },
    )

    -- nothing was written, and there is no answer
    forgets : (c : Bool) (n : ℕ) → ReplicaTie h.places (left c) (H.standing b) (copy_of σ b) → Result c (unheard v b) n
    forgets c n t =
        built c (unheard v b) n σ.mark σ.place (upd² σ.known z b false) σ.recorded (forgotten σ z b) (λ j o. refl)
        (put_kept h x H σ S b M.replica (left c) (H.standing a) t)
        (opening_forgets h x H σ S s b f given M p σ.known σ.recorded (only_none σ.known z b) (only_none σ.recorded z b))

    module _ (e : refuses_at h.places v x.media b ≡ false) where
      can : Can-copy σ z a b
      can =
          record {
            phase = row.phase;
            known_a = sym (row.known a within_a) ∙ active_a;
            known_b = known_b;
            promise_a = promise_a;
            promise_b = promise_b e;
            more = more e;
          }

      module _ (g : Grown h.places bs m (left false)) where
        grown : ReplicaTie h.places (left false) (standing_after h.places x H b (left false) (H.standing a)) (copy_of (after_append σ b (tx e)) b)
        grown =
            put_grown h x H σ S b M.replica (left false) (H.standing a) bs (tx e) g (bytes e) (room e)
            (A.whose (suc (σ.mark b)) (omega arith) (more e))

        heard_copied : (n : ℕ) → Result false (heard v b (mark_of h.places (left false))) n
        heard_copied n =
            built false (heard v b (mark_of h.places (left false))) n (append_mark σ.mark b) (append_place σ.place σ.mark b (tx e))
            σ.known (upd² σ.recorded z b (suc (σ.mark b))) (copy_answered σ z a b can) (append_others σ b (tx e)) grown
            (opening_told h x H σ S s b f given M p true (mark_of h.places (left false)) σ.known (upd² σ.recorded z b (suc (σ.mark b)))
            (only_none σ.known z b) (only_set σ.recorded z b (suc (σ.mark b))) known_b
            (λ q. grown.mark ∙ upd_same σ.mark b (suc (σ.mark b)) ∙ sym (upd²_at σ.recorded z b (suc (σ.mark b)) z b refl refl)))

        silent_copied : (n : ℕ) → Result false (unheard v b) n
        silent_copied n =
            built false (unheard v b) n (append_mark σ.mark b) (append_place σ.place σ.mark b (tx e)) (upd² σ.known z b false)
            (upd² σ.recorded z b (suc (σ.mark b))) (copy_silent σ z a b can) (append_others σ b (tx e)) grown
            (opening_forgets h x H σ S s b f given M p σ.known (upd² σ.recorded z b (suc (σ.mark b))) (only_none σ.known z b)
            (only_set σ.recorded z b (suc (σ.mark b))))

    goes : (c d : Bool) (n : ℕ) → refuses_at h.places v x.media b ≡ c → answered f ≡ d
        → Result c (cond d (heard v b (mark_of h.places (left c))) (unheard v b)) n
    goes true true n e q = absurd (true≢false (sym e ∙ accepted q))
    goes true false n e q = forgets true n T
    goes false true n e q = ⊎_elim (λ t. absurd (t.0 (is_answered_lem f q))) (λ g. heard_copied e g n)
        (append_cases h x H σ S s b f given M e bs (room e) (valid e))
    goes false false n e q = ⊎_elim (λ t. forgets false n t.1) (λ g. silent_copied e g n)
        (append_cases h x H σ S s b f given M e bs (room e) (valid e))

    opening_played : Played h x H σ (with_call_lem (call.Copy s a b f) beside)
    unfolding told append_effect
    opening_played =
        let c = refuses_at h.places v x.media b in
        let mark = mark_of h.places (left c) in
        let w = after_message f v b mark in
        subst⁻¹
        (λ (w' : Server). Result c w' (value_or 0 (reply_to f (ok (cond (is_open v.phase) w'.acked mark ∷ [])))))
        (ap (λ (q : Phase). cond (is_open q) (acknowledge h.replicas w) w) p)
        (goes c (answered f) (value_or 0 (reply_to f (ok (cond (is_open v.phase) w.acked mark ∷ [])))) refl refl)

  pub copy_played : Played h x H σ (with_call_lem (call.Copy s a b f) beside)
  copy_played = ⊎_elim opening_played open_played (not_idle v.phase (B.passed 5))
