-- issue: the log of the session gets one more, and the lock table enters its locks.
-- Assumes nothing.
use mathlib.Core.Path.{◌≡◌, refl, sym, ap, ◌∙◌}
use mathlib.Core.Logic.{◌≢◌, ◌⊎◌, inl, inr}
use mathlib.Core.Bool.{true, true≢false}
use mathlib.Core.List.{List}
use Prim.Native.Nat.{ℕ, suc, ◌+◌, ◌*◌, ◌≤◌, ◌<◌}
use native.Mathlib.Omega.{arith}
use lib.ListN.{length, set}
use borrow.Author.Tests.{eqb-false}
use Rattle.base.proofs.Tests.{lt_or_le}
use Rattle.octets.proofs.Laws.{length_part}
use Rattle.storage.specs.Sizes.{data_limit, place_layout, place_size}
use Rattle.storage.specs.Places.{place_numbers, record_bytes, valid_place}
use Rattle.storage.proofs.Layouts.{record_length}
use Rattle.storage.proofs.Records.{read_back}
use Rattle.locks.specs.Locks.{estimate_of, marked_all}
use Rattle.locks.proofs.Laws.{length_marked_all}
use Rattle.locks.proofs.NoFalseNegatives.{rises, tops, enters}
use Rattle.protocol.specs.State as protocol
use Rattle.protocol.specs.State.{Tx}
use Rattle.protocol.specs.Columns.{upd}
use Rattle.protocol.specs.Events.{Can-issue, after_issue}
use Rattle.protocol.proofs.Columns.{upd_same, upd_other}
use Rattle.protocol.proofs.Traces.{issue_answered}
use Rattle.cluster.specs.declared.Shape.{Shape}
use Rattle.cluster.specs.declared.Phase.TheVariants.{Open}
use Rattle.cluster.specs.declared.Server.{Server}
use Rattle.cluster.specs.declared.Request.{Request}
use Rattle.cluster.specs.declared.Call.TheVariants as call
use Rattle.cluster.specs.State.{State, server_at, holds, record_of, table_size, table_at, with_table}
use Rattle.limits.specs.Limits.{limits_of}
use Rattle.cluster.specs.Effects.{issued_fields, issued_server, issue_effect}
use Rattle.cluster.proofs.Limited.{has_room, fits_place}
use Rattle.cluster.proofs.Locked.{aware}
use Rattle.cluster.proofs.Window.{within, length_held, issued_newest, issued_older}
use Rattle.cluster.proofs.Marks.{marks_fit}
use Rattle.guarantee.specs.History.{Element, History, Logged, issued_as, told}
use Rattle.guarantee.proofs.Ties.{row_of, story_of, logged_of, OpenTie, ServerTie, ServersTie, SessionTie, SessionsTie, Sim}
use Rattle.guarantee.proofs.Frames.{server_frame, alone_in, table_others, table_written, session_frame}
use Rattle.guarantee.proofs.Passing.{below_four, is_open_lem}
use Rattle.guarantee.proofs.Sessions.{set_at_same, set_at_other, told_issued}
use Rattle.guarantee.proofs.Facts.{open_lives}
use Rattle.guarantee.proofs.Played.{with_call_lem, Before, Played}

module _ (h : Shape) (x : State) (H : History) (σ : protocol.State) (beside : Element) (s : ℕ) (q : Request)
    (B : Before h x H σ (with_call_lem (call.Issue s q) beside)) where
  abbrev content : List ℕ
  content = beside.input.content

  abbrev locks : List ℕ
  locks = beside.input.locks

  S : Sim h x H σ
  S = B.sim

  abbrev v : Server
  v = server_at x.records s

  abbrev z : ℕ
  z = v.session

  abbrev table : List ℕ
  table = table_at s x.tables

  serves : v.phase ≡ Open
  serves = is_open_lem v.phase (B.passed 5)

  tie : ServerTie h.replicas v table (H.current s) (row_of σ)
  tie = S.servers.each s (below_four s (B.passed 3))

  row : OpenTie h.replicas v table (row_of σ z)
  row = tie.serving serves

  open_z : σ.opened z ≡ true
  open_z = B.inv.numbers.live z row.phase

  -- the next ID
  abbrev n : ℕ
  n = v.issued + 1

  next : n ≡ suc (σ.issued z)
  next = omega (arith, row.issued)

  -- the transaction, and the estimates after it
  abbrev tx : Tx
  tx = record { issue = H.calls; bytes = record_bytes (issued_fields n q) content; locks = locks; client_mark = q.mark }

  abbrev table' : List ℕ
  table' = marked_all table locks n

  abbrev τ : protocol.State
  τ = after_issue σ z tx (estimate_of table')

  below : (k : ℕ) → estimate_of table k ≤ n
  below k = omega (arith, row.estimate k, row.entered k, row.issued)

  size : length table ≡ table_size
  size = length_part (s * table_size) table_size x.tables (omega (arith, S.servers.tables_size, below_four s (B.passed 3)))

  can : Can-issue σ z tx (estimate_of table')
  can =
      record {
        phase = row.phase;
        free = λ k m.
            let a = beside.input in
            omega (arith, row.estimate k, aware h x s q content locks a.given a.stamp a.files a.backup B.passes k m);
        rises = λ k. omega (arith, row.estimate k, rises table locks n k (below k));
        enters = λ k m. omega (arith, next, enters table locks n k size m);
      }

  room : n ≤ h.places
  room =
      omega (arith, (marks_fit h x.records s (below_four s (B.passed 3)) (B.passed 2)).issued, eqb-false v.issued h.places (B.passed 14))

  short : length content ≤ data_limit
  short = fits_place (limits_of q.client) (length content) (length locks) (has_room q.client) (B.passed 12)

  full : length tx.bytes ≡ place_size
  unfolding record_bytes
  full = record_length place_layout (place_numbers (issued_fields n q) (length content)) content refl short

  valid : valid_place n tx.bytes ≡ true
  valid =
      let r = B.covered.fits.request s q refl in
      (read_back (issued_fields n q) content
      (record {
        id = omega (arith, room, B.range.most);
        client = r.client;
        generation = r.generation;
        partition = r.partition;
        sequence = r.sequence;
        header = r.header;
      })
      short
      B.covered.fits.content).valid

  -- ---- the rows

  rows : (u : ℕ) → z ≢ u → row_of τ u ≡ row_of σ u
  rows u d =
      rw (
        upd_other σ.issued z (suc (σ.issued z)) u d,
        upd_other σ.log z (upd (σ.log z) (suc (σ.issued z)) tx) u d,
        upd_other σ.estimate z (estimate_of table') u d,
      )

  issued_z : τ.issued z ≡ suc (σ.issued z)
  issued_z = upd_same σ.issued z (suc (σ.issued z))

  log_z : τ.log z ≡ upd (σ.log z) (suc (σ.issued z)) tx
  log_z = upd_same σ.log z (upd (σ.log z) (suc (σ.issued z)) tx)

  estimate_z : τ.estimate z ≡ estimate_of table'
  estimate_z = upd_same σ.estimate z (estimate_of table')

  abbrev w : Server
  w = issued_server v q content

  last : upd (σ.log z) (suc (σ.issued z)) tx (suc (σ.issued z)) ≡ tx
  last = upd_same (σ.log z) (suc (σ.issued z)) tx

  -- what is held: the new record, or one that was held before
  module _ (m : ℕ) (e : holds w m ≡ true) where
    abbrev HeldIs : Type 0
    HeldIs = (record_of w m ≡ (upd (σ.log z) (suc (σ.issued z)) tx m).bytes) × (valid_place m (record_of w m) ≡ true)

    held_is : HeldIs
    held_is = go (lt_or_le v.issued m)
      where
        go : (v.issued < m) ⊎ (m ≤ v.issued) → HeldIs
        go (inl l) =
            let is : m ≡ n = omega (arith, l, (within w m e).reached) in
            let new : record_of w m ≡ tx.bytes = ap (record_of w) is ∙ issued_newest v q content tie.sized.held full in
            let here : upd (σ.log z) (suc (σ.issued z)) tx m ≡ tx = ap (upd (σ.log z) (suc (σ.issued z)) tx) (is ∙ next) ∙ last in (
              new ∙ sym (ap (λ (t : Tx). t.bytes) here),
              ap (valid_place m) new ∙ ap (λ (j : ℕ). valid_place j tx.bytes) is ∙ valid,
            )
        go (inr l) =
            let o = issued_older v q content tie.sized.held m l e in
            let other = upd_other (σ.log z) (suc (σ.issued z)) tx m (λ d. omega (arith, d, l, row.issued)) in (
              o.1 ∙ row.held m o.0 ∙ sym (ap (λ (t : Tx). t.bytes) other),
              rw o.1 (row.written m o.0),
            )

  serving : OpenTie h.replicas w table' (row_of τ z)
  serving =
      rw (issued_z, log_z, estimate_z)
      (record {
        phase = row.phase;
        member = row.member;
        recorded = row.recorded;
        start = row.start;
        issued = next;
        held = λ m e. (held_is m e).0;
        written = λ m e. (held_is m e).1;
        estimate = λ k. refl;
        entered = λ k. omega (arith, next, tops table locks n k (below k));
      })

  abbrev tables' : List ℕ
  tables' = with_table s table' x.tables

  written_table : (table_at s tables' ≡ table') × (length tables' ≡ 4 * table_size)
  written_table =
      table_written x.tables table' S.servers.tables_size (length_marked_all table locks n ∙ size) s (below_four s (B.passed 3))

  servers : ServersTie h.replicas (set x.records.servers s w) tables' H.current (row_of τ)
  servers =
      let awake = open_lives v serves in
      let alone = alone_in _ _ _ _ _ S.servers s (below_four s (B.passed 3)) awake in
      server_frame _ _ _ _ _ S.servers s (below_four s (B.passed 3)) w tables' H.current (row_of τ)
      (record {
        size = written_table.1;
        table = λ t k d. table_others x.tables table' S.servers.tables_size (length_marked_all table locks n ∙ size) s (below_four s (B.passed 3)) t d;
        take = λ t d. refl;
        row = λ t k d a. rows _ (alone t k d a);
      })
      (λ a. alone)
      (rw written_table.0
      (record {
        sized = record { known = tie.sized.known; dropped = tie.sized.dropped; marks = tie.sized.marks; held = length_held v.held tx.bytes tie.sized.held full };
        current = λ a. tie.current awake;
        opening = λ p. let e : ◌≡◌ {A = ℕ} 0 1 = cc (p, serves) in absurd (omega arith);
        serving = λ p. serving;
      }))

  -- ---- the session

  stories : (u : ℕ) → z ≢ u → story_of τ u ≡ story_of σ u
  stories u d =
      rw (upd_other σ.issued z (suc (σ.issued z)) u d, upd_other σ.log z (upd (σ.log z) (suc (σ.issued z)) tx) u d)

  abbrev K : ℕ → ℕ → Logged → History
  K = issued_as H

  session : SessionTie ((K z n (logged_of tx)).sessions z) (story_of τ z)
  session =
      rw (set_at_same H.sessions z _, issued_z, log_z)
      (record {
        opened = λ e. told_issued (H.sessions z) (story_of σ z) tx n next ((S.sessions z).opened e) (B.inv.chain.filled z open_z);
        before = λ e. absurd (true≢false (sym open_z ∙ e));
      })

  sessions : SessionsTie (K z n (logged_of tx)).sessions (story_of τ)
  sessions =
      session_frame H.sessions (K z n (logged_of tx)).sessions (story_of σ) (story_of τ) S.sessions z
      (λ u d. set_at_other H.sessions z _ u d) stories session

  pub issue_played : Played h x H σ (with_call_lem (call.Issue s q) beside)
  unfolding issue_effect told
  issue_played = (
    τ,
    issue_answered σ z tx (estimate_of table') can,
    record {
      R = S.R;
      Q = S.Q;
      register = S.register;
      replicas = S.replicas;
      servers = servers;
      sessions = rw (tie.current (open_lives v serves)) sessions;
    },
  )
