-- What a call does unless it is declined. Document 01, "Fates" and "Calls on a cluster"; document 02, No. 3, 5 and 10.
-- Assumes nothing.
use Rattle.std.specs.Prelude.{ℕ, ◌+◌, List, [], ◌∷◌, Bool, true, false, cond, not, ◌&&◌, set, replicate}
use Rattle.base.specs.Below.{up_to}
use Rattle.quorum.specs.Vote.{majority_mark}
use Rattle.locks.specs.Locks.{marked_all}
use Rattle.fate.specs.declared.Fate.{Fate}
use Rattle.fate.specs.declared.Fate.TheVariants.{Answered, Lost, AnswerLost, Cut}
use Rattle.fate.specs.Fates.{Write, after}
use Rattle.storage.specs.declared.operation.Target.{Target}
use Rattle.storage.specs.declared.operation.Target.TheVariants as target
use Rattle.storage.specs.declared.operation.Operation.{Operation}
use Rattle.storage.specs.declared.operation.Operation.TheVariants as op
use Rattle.octets.specs.Octets.{write_at}
use Rattle.storage.specs.declared.slot.Slot.{Slot}
use Rattle.storage.specs.declared.place.Fields.{Fields}
use Rattle.storage.specs.Sizes.{slot_size, place_size}
use Rattle.storage.specs.Slots.{slot_bytes, stored_slot}
use Rattle.storage.specs.Places.{record_bytes}
use Rattle.storage.specs.Log.{place_at, mark_of}
use Rattle.storage.specs.Operations.{writes_of, medium_at, with_medium}
use Rattle.segment.specs.declared.header.Stamp.{Stamp}
use Rattle.segment.specs.Pair.{Files, pair_of}
use Rattle.cluster.specs.declared.Closing.{Closing}
use Rattle.cluster.specs.declared.Closing.TheVariants.{Unresolved, Mark, Restored}
use Rattle.cluster.specs.declared.Entry.{Entry}
use Rattle.cluster.specs.declared.Register.{Register}
use Rattle.cluster.specs.declared.Phase.TheVariants.{Opening, Open}
use Rattle.cluster.specs.declared.Server.{Server}
use Rattle.cluster.specs.declared.Request.{Request}
use Rattle.cluster.specs.State.{State, idle_server, server_at, put_server, put_register, entry_at, mark_at, member_at, held_after, record_of, table_size, table_at, with_table}
use Rattle.cluster.specs.Replies.{Reply, ok, silent}
use Rattle.cluster.specs.Refusals.{answered, is_open, clean_at, refuses_prepare, refuses_at, exported_places, session_at_top, session_differs}

-- what a call leaves: the state, the reply, and the place that read answers (zeros for any other reply)
pub record Result : Type 0 where
  pub state : State
  pub reply : Reply
  pub bytes : List ℕ

abbrev pub no_bytes : List ℕ
no_bytes = replicate place_size 0

-- ================ a server's record

-- `known`, `dropped` and the recorded mark of replica i set
abbrev pub with_replica : Server → ℕ → Bool → Bool → ℕ → Server
with_replica v i known dropped mark =
    record {
      phase = v.phase;
      session = v.session;
      generation = v.generation;
      entries = v.entries;
      known = set v.known i known;
      dropped = set v.dropped i dropped;
      marks = set v.marks i mark;
      start = v.start;
      issued = v.issued;
      acked = v.acked;
      held = v.held;
    }

-- "Each answered replica call sets the recorded mark to the replica's mark after it": the replica is known, or stays an undropped member
abbrev pub heard : Server → ℕ → ℕ → Server
heard v i mark = with_replica v i true false mark

-- "No answer means silent: an opening server forgets the replica (not known, recorded mark 0), an open one drops it for the session and
-- keeps its recorded mark"
abbrev pub unheard : Server → ℕ → Server
unheard v i = cond (is_open v.phase) (with_replica v i true true (mark_at v i)) (with_replica v i false false 0)

-- "After send or copy by an open server, the acknowledged mark is the highest that Q members' marks reach, dropped members included (0 if a
-- handed-in record has fewer than Q members)"
abbrev pub acknowledge : ℕ → Server → Server
acknowledge r v =
    record {
      phase = v.phase;
      session = v.session;
      generation = v.generation;
      entries = v.entries;
      known = v.known;
      dropped = v.dropped;
      marks = v.marks;
      start = v.start;
      issued = v.issued;
      acked = majority_mark (member_at v) (mark_at v) r;
      held = v.held;
    }

-- ================ messages to a replica

-- replica i's medium after a message with these writes: "A replica that declines writes nothing"
abbrev pub medium_after : Bool → Fate → List ℕ → List Write → List ℕ → List ℕ
medium_after declines f given ws m = cond declines m (after f given ws m)

-- server s after a message to replica i that is answered with its mark after it, or not at all
abbrev pub after_message : Fate → Server → ℕ → ℕ → Server
after_message f v i mark = cond (answered f) (heard v i mark) (unheard v i)

-- "No answer means silent"
abbrev pub reply_to : Fate → Reply → Reply
reply_to f reply = cond (answered f) reply silent

-- the state with replica i's medium m and server s's record v in it
abbrev pub with_medium_and_server : ℕ → State → ℕ → ℕ → List ℕ → Server → State
with_medium_and_server N x s i m v =
    record { records = put_server x.records s v; media = with_medium N i m x.media; tables = x.tables }

-- prepare, trim and note: "it answers its mark"
abbrev pub message : ℕ → State → ℕ → ℕ → Fate → List ℕ → Result
message N x s i f m =
    record {
      state = with_medium_and_server N x s i m (after_message f (server_at x.records s) i (mark_of N m));
      reply = reply_to f (ok (mark_of N m ∷ []));
      bytes = no_bytes;
    }

-- what is left of the log of a replica that is prepared: "truncates to the entry's closing mark if there is one"; document 02, No. 10: "Preparing a restored
-- replica truncates to its low-water mark"
abbrev pub target_of : Closing → Target
target_of Unresolved = target.Whole
target_of (Mark c) = target.Mark c
target_of Restored = target.LowWater

-- "prepare i (opening): the replica writes a slot with the new promise, other fields kept, unless the promise is equal, then truncates to
-- the entry's closing mark if there is one; it answers its mark and is known." The entry is the one handed over at take.
abbrev pub prepare_operation : Server → ℕ → Operation
prepare_operation v i = op.Prepare v.session (target_of (entry_at v.entries i).closing)

unfoldable pub prepare_effect : ℕ → State → ℕ → ℕ → Fate → List ℕ → Result
prepare_effect N x s i f given =
    let v = server_at x.records s in
    let m = medium_at N i x.media in
    message N x s i f
    (medium_after (refuses_prepare v.session m) f given (writes_of N [] (prepare_operation v i) m) m)

-- "trim i (opening, decided): truncates a known replica to the majority mark and answers its mark.": d is that mark
unfoldable pub trim_effect : ℕ → ℕ → State → ℕ → ℕ → Fate → List ℕ → Result
trim_effect N d x s i f given =
    let v = server_at x.records s in
    let m = medium_at N i x.media in
    message N x s i f (medium_after (refuses_at N v x.media i) f given (writes_of N [] (op.Trim d) m) m)

-- "note i (open): writes a slot with the promise kept, the starting mark as low-water and i's mark as local low-water; it answers i's mark."
unfoldable pub note_effect : ℕ → State → ℕ → ℕ → Fate → List ℕ → Result
note_effect N x s i f given =
    let v = server_at x.records s in
    let m = medium_at N i x.media in
    message N x s i f (medium_after (refuses_at N v x.media i) f given (writes_of N [] (op.Note v.start (mark_at v i)) m) m)

-- the state after a message to replica i that only reads
abbrev pub looked : ℕ → State → ℕ → ℕ → Fate → State
looked N x s i f =
    let v = server_at x.records s in
    let m = medium_at N i x.media in
    record { records = put_server x.records s (after_message f v i (mark_of N m)); media = x.media; tables = x.tables }

-- "read i, ID (open): the place's 64 bytes": 72 since document 02, No. 7
unfoldable pub read_effect : ℕ → State → ℕ → ℕ → ℕ → Fate → Result
read_effect N x s i n f =
    let m = medium_at N i x.media in
    record {
      state = looked N x s i f;
      reply = reply_to f (ok []);
      bytes = cond (answered f) (place_at n m) no_bytes;
    }

-- document 02, No. 3: "Export a member's log .. with read's fate"; "a call with no named answer gives ok alone". What it writes into its two files is
-- `exported_pair`; the cluster is as after a read.
unfoldable pub export_effect : ℕ → State → ℕ → ℕ → Fate → Result
export_effect N x s i f = record { state = looked N x s i f; reply = reply_to f (ok []); bytes = no_bytes }

-- "Export a member's log, up to the lesser of its mark and the acknowledged one, as one segment"
abbrev pub exported_pair : ℕ → State → ℕ → ℕ → Stamp → Files
exported_pair N x s i z = pair_of z (exported_places N (server_at x.records s) i x.media)

-- a record in the place behind b's mark, for copy and send: "send and copy answer [the acknowledged mark] if open, a copy while opening
-- answers b's mark"
unfoldable pub append_effect : ℕ → ℕ → State → ℕ → ℕ → List ℕ → Fate → List ℕ → Result
append_effect r N x s b bs f given =
    let v = server_at x.records s in
    let m = medium_at N b x.media in
    let m' = medium_after (refuses_at N v x.media b) f given (writes_of N bs (op.Append (mark_at v b)) m) m in
    let w = after_message f v b (mark_of N m') in
    let w' = cond (is_open v.phase) (acknowledge r w) w in
    record {
      state = with_medium_and_server N x s b m' w';
      reply = reply_to f (ok (cond (is_open v.phase) w'.acked (mark_of N m') ∷ []));
      bytes = no_bytes;
    }

-- "copy a, b (opening or open): ID (b's mark + 1) of known a is written in known b as it is."
abbrev pub copy_effect : ℕ → ℕ → State → ℕ → ℕ → ℕ → Fate → List ℕ → Result
copy_effect r N x s a b f given =
    append_effect r N x s b (place_at (mark_at (server_at x.records s) b + 1) (medium_at N a x.media)) f given

-- document 02, No. 5: "send delivers the one that follows the replica's mark, if it is still held", in place of document 01's "send i (open): writes the
-- issued record, held by the server as 64 bytes, in place (i's mark + 1) of member i." (72 bytes since document 02, No. 7.) What is held is written as it is.
abbrev pub send_effect : ℕ → ℕ → State → ℕ → ℕ → Fate → List ℕ → Result
send_effect r N x s i f given =
    let v = server_at x.records s in
    append_effect r N x s i (record_of v (mark_at v i + 1)) f given

-- ================ messages to the register

-- a message to the register arrives, answered or not (a cut one is declined, number 6)
abbrev pub arrives : Fate → Bool
arrives Answered = true
arrives Lost = false
arrives AnswerLost = true
arrives (Cut w l) = false

-- the records with register and server s replaced
abbrev pub with_register_and_server : State → ℕ → Register → Server → State
with_register_and_server x s g v =
    record { records = put_server (put_register x.records g) s v; media = x.media; tables = x.tables }

-- "take (idle): raises the session by 1, hands the server that number, the generation and the entries; the server is opening and knows no
-- replica. It answers the session."
abbrev pub raised_session : Register → Register
raised_session g = record { session = g.session + 1; generation = g.generation; entries = g.entries }

abbrev pub opening_server : Register → Server
opening_server g =
    record {
      phase = Opening;
      session = g.session;
      generation = g.generation;
      entries = g.entries;
      known = idle_server.known;
      dropped = idle_server.dropped;
      marks = idle_server.marks;
      start = 0;
      issued = 0;
      acked = 0;
      held = idle_server.held;
    }

-- "a silent register leaves the server idle"
unfoldable pub take_effect : State → ℕ → Fate → Result
take_effect x s f =
    let g = x.records.register in
    let g' = cond (arrives f && not (session_at_top g.session)) (raised_session g) g in
    record {
      state = with_register_and_server x s g' (cond (answered f) (opening_server g') idle_server);
      reply = reply_to f (ok (g'.session ∷ []));
      bytes = no_bytes;
    }

-- "the register sets clean entries to this session, unresolved; other unresolved entries get the mark as closing mark; the rest remain"; document 02, No. 10,
-- of a restored one that is clean: "the entry is ordinary; otherwise it stays restored"
abbrev pub closed_at : Entry → ℕ → Closing → Entry
closed_at e d Unresolved = record { session = e.session; closing = Mark d }
closed_at e d (Mark c) = e
closed_at e d Restored = e

abbrev pub entry_after : Entry → Bool → ℕ → ℕ → Entry
entry_after e clean session d = cond clean (record { session = session; closing = Unresolved }) (closed_at e d e.closing)

unfoldable pub opened_register : ℕ → Register → Server → ℕ → Register
opened_register r g v d =
    record {
      session = g.session;
      generation = g.generation;
      entries = up_to (λ i. entry_after (entry_at g.entries i) (clean_at v d i) v.session d) g.entries r;
    }

-- "The mark is the session's starting mark, .. issued = acknowledged = it, clean replicas are its members, and all other recorded marks
-- become 0." The bytes of the eight records stay; none is held, since nothing is issued above the starting mark.
unfoldable pub opened_server : ℕ → Server → ℕ → Server
opened_server r v d =
    record {
      phase = Open;
      session = v.session;
      generation = v.generation;
      entries = v.entries;
      known = up_to (clean_at v d) (replicate 7 false) r;
      dropped = replicate 7 false;
      marks = up_to (λ i. cond (clean_at v d i) d 0) (replicate 7 0) r;
      start = d;
      issued = d;
      acked = d;
      held = v.held;
    }

-- "open (opening)": "its lock table is filled with it"; "It answers the mark.": d is the mark that the vote decided
unfoldable pub open_effect : ℕ → ℕ → State → ℕ → Fate → Result
open_effect r d x s f =
    let g = x.records.register in
    let v = server_at x.records s in
    let g' = cond (arrives f && not (session_differs g v)) (opened_register r g v d) g in
    record {
      state =
          record {
            records = put_server (put_register x.records g') s (cond (answered f) (opened_server r v d) idle_server);
            media = x.media;
            tables = cond (answered f) (with_table s (replicate table_size d) x.tables) x.tables;
          };
      reply = reply_to f (ok (d ∷ []));
      bytes = no_bytes;
    }

-- ================ calls without a message

-- "issue (open): gives a request the next ID and writes that ID in the three table places of each of its 0 to 4 locks"
abbrev pub issued_fields : ℕ → Request → Fields
issued_fields n q =
    record { id = n; client = q.client; generation = q.generation; partition = q.partition; sequence = q.sequence; header = q.header }

abbrev pub issued_server : Server → Request → List ℕ → Server
issued_server v q content =
    record {
      phase = v.phase;
      session = v.session;
      generation = v.generation;
      entries = v.entries;
      known = v.known;
      dropped = v.dropped;
      marks = v.marks;
      start = v.start;
      issued = v.issued + 1;
      acked = v.acked;
      held = held_after v.held (record_bytes (issued_fields (v.issued + 1) q) content);
    }

unfoldable pub issue_effect : State → ℕ → Request → List ℕ → List ℕ → Result
issue_effect x s q content locks =
    let v = server_at x.records s in
    let n = v.issued + 1 in
    record {
      state =
          record {
            records = put_server x.records s (issued_server v q content);
            media = x.media;
            tables = with_table s (marked_all (table_at s x.tables) locks n) x.tables;
          };
      reply = ok (n ∷ []);
      bytes = no_bytes;
    }

-- "stop (any phase, no fate) makes a server idle and answers nothing."
unfoldable pub stop_effect : State → ℕ → Result
stop_effect x s =
    record {
      state = record { records = put_server x.records s idle_server; media = x.media; tables = x.tables };
      reply = ok [];
      bytes = no_bytes;
    }

-- "reassign raises the generation by 1 and answers it, without fate."
abbrev pub raised_generation : Register → Register
raised_generation g = record { session = g.session; generation = g.generation + 1; entries = g.entries }

unfoldable pub reassign_effect : State → Result
reassign_effect x =
    let g = raised_generation x.records.register in
    record {
      state = record { records = put_register x.records g; media = x.media; tables = x.tables };
      reply = ok (g.generation ∷ []);
      bytes = no_bytes;
    }

-- ================ a medium from a backup

-- document 02, No. 10: restore "writes [the bytes] over it, raises the register's session, marks the entry restored (its session kept) and writes that session
-- as promise in both slots, with the current slot's low-water marks, as one step without fate, and answers the session". "That session" is the raised one,
-- and the current slot that of the bytes.
abbrev pub restored_slot : ℕ → List ℕ → Slot
restored_slot session backup = record { promise = session; low = (stored_slot backup).low; local = (stored_slot backup).local }

abbrev pub restored_medium : ℕ → List ℕ → List ℕ
restored_medium session backup =
    let slot = slot_bytes (restored_slot session backup) in
    write_at 0 slot (write_at slot_size slot backup)

abbrev pub restored_entry : Entry → Entry
restored_entry e = record { session = e.session; closing = Restored }

abbrev pub restored_register : Register → ℕ → Register
restored_register g i =
    record {
      session = g.session + 1;
      generation = g.generation;
      entries = set g.entries i (restored_entry (entry_at g.entries i));
    }

-- the raised session is no server's, and server records stay
unfoldable pub restore_effect : ℕ → State → ℕ → List ℕ → Result
restore_effect N x i backup =
    let g = restored_register x.records.register i in
    record {
      state =
          record {
            records = put_register x.records g;
            media = with_medium N i (restored_medium g.session backup) x.media;
            tables = x.tables;
          };
      reply = ok (g.session ∷ []);
      bytes = no_bytes;
    }
