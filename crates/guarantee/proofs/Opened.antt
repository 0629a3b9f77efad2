-- What an open leaves: register, rows, session, with the server open or, where the answer is lost, idle.
-- Assumes nothing.
use mathlib.Core.Path.{◌≡◌, refl, sym, ◌∙◌}
use mathlib.Core.Logic.{◌≢◌}
use mathlib.Core.Bool.{true, false, cond, true≢false}
use mathlib.Core.List.{List}
use mathlib.Core.Option.{some}
use Prim.Native.Nat.{ℕ, ◌*◌, ◌≤◌, ◌<◌}
use native.Mathlib.Omega.{arith}
use lib.ListN.{length, set, replicate, length-replicate}
use borrow.Author.Tests.{le-leb}
use Rattle.base.proofs.Below.{up_to_length, up_to_at}
use Rattle.storage.specs.Operations.{medium_at}
use Rattle.locks.proofs.NoFalseNegatives.{starts}
use Rattle.protocol.specs.State as protocol
use Rattle.protocol.specs.Marks.{clean}
use Rattle.protocol.specs.Events.{after_open, Can-open}
use Rattle.protocol.proofs.Columns.{upd_same, upd_other}
use Rattle.protocol.proofs.Clean.{clean_is, clean_mark}
use Rattle.cluster.specs.declared.Shape.{Shape}
use Rattle.cluster.specs.declared.Register.{Register}
use Rattle.cluster.specs.declared.Phase.TheVariants.{Opening}
use Rattle.cluster.specs.declared.Server.{Server}
use Rattle.cluster.specs.State.{State, idle_server, server_at, put_server, put_register, mark_at, member_at, holds, table_size, table_at, with_table}
use Rattle.cluster.specs.Refusals.{vote_mark, clean_at, session_differs}
use Rattle.cluster.specs.Effects.{opened_register, opened_server}
use Rattle.cluster.proofs.Window.{within}
use Rattle.guarantee.specs.History.{History, stands, opened_at}
use Rattle.guarantee.proofs.Sessions.{set_at_same, set_at_other}
use Rattle.guarantee.proofs.Ties.{row_of, story_of, logged_of, OpenTie, Live, ServersTie, RegisterTie, SessionTie, SessionsTie, Sim}
use Rattle.guarantee.proofs.Frames.{Alone, server_frame, idle_frame, alone_in, table_others, table_written, session_frame}
use Rattle.guarantee.proofs.Registers.{opened_tie}
use Rattle.guarantee.proofs.Facts.{opening_lives, at_most_seven, valid_place_lem}
use Rattle.guarantee.proofs.Opening.{Found}
use Rattle.guarantee.specs.Guarantee.{InRange}
use Rattle.protocol.proofs.Invariant.{Inv}

module _ (h : Shape) (x : State) (H : History) (σ : protocol.State) (S : Sim h x H σ) (I : Inv σ) (range : InRange h) (s : ℕ) (l : s < 4)
    (opens : (server_at x.records s).phase ≡ Opening) (F : Found h x σ s)
    (same : session_differs x.records.register (server_at x.records s) ≡ false)
    (a : ℕ) (la : a < h.replicas) (ca : clean_at (server_at x.records s) (vote_mark h.replicas (server_at x.records s)) a ≡ true) where
  abbrev R : ℕ
  R = h.replicas

  abbrev g : Register
  g = x.records.register

  abbrev v : Server
  v = server_at x.records s

  abbrev z : ℕ
  z = v.session

  abbrev D : ℕ
  D = vote_mark R v

  abbrev τ : protocol.State
  τ = after_open σ z D a

  can : Can-open σ z D a
  can = F.can same a la ca

  register : RegisterTie R (opened_register R g v (vote_mark R v)) τ.session τ.unresolved τ.closing τ.restored τ.opened
  register =
      opened_tie R g v F.room σ.session σ.unresolved σ.closing σ.restored σ.opened S.register (clean σ z D) F.cleans

  -- ---- the rows

  other_rows : (u : ℕ) → z ≢ u → row_of τ u ≡ row_of σ u
  other_rows u d =
      rw (
        upd_other σ.phase z protocol.Open u d,
        upd_other σ.member z (clean σ z D) u d,
        upd_other σ.start z D u d,
        upd_other σ.issued z D u d,
        upd_other σ.log z (σ.place a) u d,
        upd_other σ.estimate z (λ k. D) u d,
      )

  awake : Live v
  awake = opening_lives v opens

  alone : Alone x.records.servers s z
  alone = alone_in _ _ _ _ _ S.servers s l awake

  idle : ServersTie R (set x.records.servers s idle_server) x.tables H.current (row_of τ)
  idle =
      idle_frame _ _ _ _ _ S.servers s l H.current (row_of τ)
      (record { size = S.servers.tables_size; table = λ t k d. refl; take = λ t d. refl; row = λ t k d b. other_rows _ (alone t k d b) })

  abbrev w : Server
  w = opened_server R v (vote_mark R v)

  abbrev table : List ℕ
  table = replicate table_size D

  seven : R ≤ 7
  seven = at_most_seven h range

  member : (i : ℕ) → i < R → member_at w i ≡ clean σ z D i
  unfolding opened_server
  member i k = up_to_at (clean_at v (vote_mark R v)) (replicate 7 false) R i false k seven ∙ F.cleans i k

  recorded : (i : ℕ) → i < R → clean σ z D i ≡ true → mark_at w i ≡ σ.recorded z i
  unfolding opened_server
  recorded i k e =
      up_to_at (λ i. cond (clean_at v (vote_mark R v) i) D 0) (replicate 7 0) R i 0 k seven ∙ rw (F.cleans i k ∙ e) (sym (clean_is σ z D i e).1)

  -- nothing is issued yet, whatever lies in the record
  none_held : {A : Type 0} (n : ℕ) → holds w n ≡ true → A
  unfolding opened_server
  none_held n e = let i = within w n e in absurd (omega (arith, i.above, i.reached))

  serving : OpenTie R w table (row_of τ z)
  unfolding opened_server
  serving =
      rw (
        upd_same σ.phase z protocol.Open,
        upd_same σ.member z (clean σ z D),
        upd_same σ.start z D,
        upd_same σ.issued z D,
        upd_same σ.log z (σ.place a),
        upd_same σ.estimate z (λ k. D),
      )
      (record {
        phase = refl;
        member = member;
        recorded = recorded;
        start = refl;
        issued = refl;
        held = λ n e. none_held n e;
        written = λ n e. none_held n e;
        estimate = λ k. starts D k;
        entered = λ k. omega arith;
      })

  filled : (table_at s (with_table s table x.tables) ≡ table) × (length (with_table s table x.tables) ≡ 4 * table_size)
  filled = table_written x.tables table S.servers.tables_size (length-replicate table_size D) s l

  servers : ServersTie R (set x.records.servers s w) (with_table s table x.tables) H.current (row_of τ)
  unfolding opened_server
  servers =
      server_frame _ _ _ _ _ S.servers s l w (with_table s table x.tables) H.current (row_of τ)
      (record {
        size = filled.1;
        table = λ t k d. table_others x.tables table S.servers.tables_size (length-replicate table_size D) s l t d;
        take = λ t d. refl;
        row = λ t k d b. other_rows _ (alone t k d b);
      })
      (λ b. alone)
      (rw filled.0
      (record {
        sized =
            record {
              known = up_to_length (clean_at v (vote_mark R v)) (replicate 7 false) R;
              dropped = refl;
              marks = up_to_length (λ i. cond (clean_at v (vote_mark R v) i) D 0) (replicate 7 0) R;
              held = (S.servers.each s l).sized.held;
            };
        current = λ b. (S.servers.each s l).current awake;
        opening = λ p. let e : ◌≡◌ {A = ℕ} 0 1 = cc in absurd (omega arith);
        serving = λ p. serving;
      }))

  -- ---- the session

  stories : (u : ℕ) → z ≢ u → story_of τ u ≡ story_of σ u
  stories u d =
      rw (
        upd_other σ.opened z true u d,
        upd_other σ.start z D u d,
        upd_other σ.issued z D u d,
        upd_other σ.log z (σ.place a) u d,
        upd_other σ.acknowledged z D u d,
      )

  -- what stands on the replica that is read
  standing : (n : ℕ) → 1 ≤ n → n ≤ D → stands h.places x H a n ≡ some (logged_of (σ.place a n))
  standing n lo hi =
      let t = S.replicas.each a la in
      let l : n ≤ σ.mark a = omega (arith, clean_mark σ I z D a can a can.clean_a) in
      rw (valid_place_lem h.places (medium_at h.places a x.media) n lo (omega (arith, t.mark)), t.bytes n lo l, t.whose n lo l)

  session : SessionTie ((opened_at H z D (stands h.places x H a)).sessions z) (story_of τ z)
  session =
      rw (
        set_at_same H.sessions z _,
        upd_same σ.opened z true,
        upd_same σ.start z D,
        upd_same σ.issued z D,
        upd_same σ.log z (σ.place a),
        upd_same σ.acknowledged z D,
        (S.sessions z).before F.new,
      )
      (record {
        opened = λ e. record {
          start = refl;
          logged = λ n lo hi. rw (le-leb n D hi) (standing n lo hi);
          beyond = λ n l. refl;
          acknowledged = omega arith;
        };
        before = λ e. absurd (true≢false e);
      })

  sessions : SessionsTie (opened_at H z D (stands h.places x H a)).sessions (story_of τ)
  sessions =
      session_frame H.sessions (opened_at H z D (stands h.places x H a)).sessions (story_of σ) (story_of τ) S.sessions z
      (λ u d. set_at_other H.sessions z _ u d) stories session

  -- ---- the two

  pub unanswered : Sim h (record { records = put_server (put_register x.records (opened_register R g v (vote_mark R v))) s idle_server; media = x.media; tables = x.tables })
      (opened_at H z D (stands h.places x H a)) τ
  unanswered = record { R = S.R; Q = S.Q; register = register; replicas = S.replicas; servers = idle; sessions = sessions }

  pub answered :
      Sim h
      (record { records = put_server (put_register x.records (opened_register R g v (vote_mark R v))) s w; media = x.media; tables = with_table s table x.tables })
      (opened_at H z D (stands h.places x H a)) τ
  answered = record { R = S.R; Q = S.Q; register = register; replicas = S.replicas; servers = servers; sessions = sessions }
