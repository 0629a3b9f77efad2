-- Why a call is declined: document 01's list, and what document 02 adds to it. First the conditions, each under its sentence and a function of what it
-- looks at; then each call's own list of them.
-- Assumes nothing.
use Rattle.std.specs.Prelude.{ℕ, ◌+◌, ◌*◌, ◌^◌, min, List, [], ◌∷◌, ◌++◌, Bool, true, false, not, cond, ◌&&◌, ◌||◌, length, leb, ltb, eqb, Option, Some, None}
use Rattle.fate.specs.declared.Fate.{Fate}
use Rattle.fate.specs.declared.Fate.TheVariants.{Answered, Lost, AnswerLost, Cut}
use Rattle.fate.specs.declared.Left.{Left}
use Rattle.fate.specs.declared.Left.TheVariants.{Old, New, Torn}
use Rattle.storage.specs.declared.slot.Current.{Current}
use Rattle.storage.specs.declared.slot.Current.TheVariants.{First, Second, Neither}
use Rattle.storage.specs.Sizes.{places_limit, medium_size}
use Rattle.storage.specs.Slots.{current_of, stored_slot}
use Rattle.storage.specs.Log.{places_from, mark_of}
use Rattle.storage.specs.Operations.{medium_at}
use Rattle.storage.specs.Given.{passes}
use Rattle.segment.specs.declared.header.Stamp.{Stamp}
use Rattle.segment.specs.Pair.{Files, data_size, index_size}
use Rattle.base.specs.Below.{all, count}
use Rattle.quorum.specs.Vote.{quorum, majority_mark, decided}
use Rattle.locks.specs.declared.HeldLock.{HeldLock}
use Rattle.locks.specs.Locks.{first_held}
use Rattle.limits.specs.declared.Limits.{Limits}
use Rattle.limits.specs.Limits.{limits_of, too_much}
use Rattle.cluster.specs.declared.Shape.{Shape}
use Rattle.cluster.specs.declared.Closing.{Closing}
use Rattle.cluster.specs.declared.Closing.TheVariants.{Unresolved, Mark, Restored}
use Rattle.cluster.specs.declared.Entry.{Entry}
use Rattle.cluster.specs.declared.Phase.{Phase}
use Rattle.cluster.specs.declared.Phase.TheVariants.{Idle, Opening, Open}
use Rattle.cluster.specs.declared.Phases.{Phases}
use Rattle.cluster.specs.declared.Server.{Server}
use Rattle.cluster.specs.declared.Register.{Register}
use Rattle.cluster.specs.declared.Records.{Records}
use Rattle.cluster.specs.declared.Request.{Request}
use Rattle.cluster.specs.declared.Call.{Call}
use Rattle.cluster.specs.declared.Call.TheVariants as call
use Rattle.cluster.specs.State.{State, table_size, server_at, entry_at, mark_at, active_at, restored_at, votes_at, window, holds, table_at}

-- a call with what lies beside it: issue's data and locks, the bytes given for a torn write, for an export the time and key that are handed in and the two
-- files that are lent, and for a restore the bytes of the medium that it writes
pub record Input : Type 0 where
  pub call : Call
  pub content : List ℕ
  pub locks : List ℕ
  pub given : List ℕ
  pub stamp : Stamp
  pub files : Files
  pub backup : List ℕ

-- a number of the list, whether its condition holds, and the values given with it
pub record Row : Type 0 where
  pub number : ℕ
  pub holds : Bool
  pub values : List ℕ

abbrev pub row : ℕ → Bool → Row
row n b = record { number = n; holds = b; values = [] }

-- ================ the conditions

-- 1 "R or N is outside its values, or a lent slice has another length": media and tables are the lengths of the lent slices. Document 02,
-- No. 1: "A K outside 1 to N meets refusal 1"
unfoldable pub replicas_fit : ℕ → Bool
replicas_fit r = eqb r 1 || eqb r 3 || eqb r 5 || eqb r 7

unfoldable pub outside : Shape → ℕ → ℕ → Bool
outside h media tables =
    not (replicas_fit h.replicas)
    || not (leb 1 h.places && leb h.places places_limit)
    || not (leb 1 h.interval && leb h.interval h.places)
    || not (eqb media (h.replicas * medium_size h.places))
    || not (eqb tables (4 * table_size))

-- 1 of a restore: the bytes too have a medium's length
unfoldable pub other_length : ℕ → List ℕ → Bool
other_length N backup = not (eqb (length backup) (medium_size N))

-- 2 "A mark in the register or a server record (closing, starting, recorded, issued, acknowledged) is above N"
abbrev pub closing_fits : Closing → ℕ → Bool
closing_fits Unresolved n = true
closing_fits (Mark c) n = leb c n
closing_fits Restored n = true

unfoldable pub entries_fit : Shape → List Entry → Bool
entries_fit h es = all (λ i. closing_fits (entry_at es i).closing h.places) h.replicas

unfoldable pub server_fits : Shape → Server → Bool
server_fits h v =
    entries_fit h v.entries
    && all (λ i. leb (mark_at v i) h.places) h.replicas
    && leb v.start h.places
    && leb v.issued h.places
    && leb v.acked h.places

unfoldable pub mark_above : Shape → Records → Bool
mark_above h r = not (entries_fit h r.register.entries && all (λ s. server_fits h (server_at r s)) 4)

-- 3 "The server number is above 3"
abbrev pub no_server_at : ℕ → Bool
no_server_at s = ltb 3 s

-- 4 "A replica number is not below R, or copy names one twice"
abbrev pub no_replica_at : ℕ → ℕ → Bool
no_replica_at r i = leb r i

abbrev pub not_two : ℕ → ℕ → ℕ → Bool
not_two r a b = no_replica_at r a || no_replica_at r b || eqb a b

-- 5 "The server isn't in the phase named with the call"
abbrev pub allows : Phase → Phases → Bool
allows Idle w = w.idle
allows Opening w = w.opening
allows Open w = w.«open»

abbrev pub is_opening : Phase → Bool
is_opening Idle = false
is_opening Opening = true
is_opening Open = false

abbrev pub is_open : Phase → Bool
is_open Idle = false
is_open Opening = false
is_open Open = true

abbrev pub only_idle : Phases
only_idle = record { idle = true; opening = false; «open» = false }

abbrev pub only_opening : Phases
only_opening = record { idle = false; opening = true; «open» = false }

abbrev pub only_open : Phases
only_open = record { idle = false; opening = false; «open» = true }

abbrev pub opening_or_open : Phases
opening_or_open = record { idle = false; opening = true; «open» = true }

abbrev pub wrong_phase : Phases → Server → Bool
wrong_phase phases v = not (allows v.phase phases)

-- 6 "A register message is cut; or a replica message is cut and w is 0; or it leaves given bytes and these pass as a slot or as any
-- place from 1 to N. With other fates, w and the bytes aren't read."
abbrev pub is_cut : Fate → Bool
is_cut Answered = false
is_cut Lost = false
is_cut AnswerLost = false
is_cut (Cut w l) = true

abbrev pub left_passes : ℕ → List ℕ → Left → Bool
left_passes N given Old = false
left_passes N given New = false
left_passes N given Torn = passes N given

abbrev pub unfit : ℕ → List ℕ → Fate → Bool
unfit N given Answered = false
unfit N given Lost = false
unfit N given AnswerLost = false
unfit N given (Cut w l) = eqb w 0 || left_passes N given l

-- 7 "A named replica isn't known (opening) or is no member or dropped (open); prepare is exempt"
abbrev pub replica_out : Server → ℕ → Bool
replica_out v i = not (active_at v i)

-- 8 "The mark isn't decided (trim, open)"
abbrev pub undecided : ℕ → Server → Bool
undecided r v = not (decided (votes_at v) (mark_at v) r)

-- the mark of a vote among the known replicas that are not restored
abbrev pub vote_mark : ℕ → Server → ℕ
vote_mark r v = majority_mark (votes_at v) (mark_at v) r

-- 9 "Fewer than Q known replicas are clean (open)": known and "exactly at [the mark d] (the clean ones)". Document 02, No. 10, of a restored one: "If it
-- stands at the decided mark at open it counts as clean"
abbrev pub clean_at : Server → ℕ → ℕ → Bool
clean_at v d i = active_at v i && eqb (mark_at v i) d

abbrev pub too_few_clean : ℕ → Server → ℕ → Bool
too_few_clean r v d = ltb (count (clean_at v d) r) (quorum r)

-- 10 to 15, and 28 and 23 among them, are issue's. 10 "The request's generation isn't the session's"
abbrev pub other_generation : Server → Request → Bool
other_generation v q = not (eqb q.generation v.generation)

-- 11 "The client's mark is above the acknowledged mark"
abbrev pub client_ahead : Server → Request → Bool
client_ahead v q = ltb v.acked q.mark

-- 12, document 01: "Data exceed 28 bytes, or locks exceed 4", is limits specs/Limits.antt `too_much`, under a pair; the client's pair is handed over below, in
-- issue's line of `checks_of`

-- 28, document 02, No. 8: "Number 28 is given by issue, just after 12, when the header is 0." A gate's request is judged alike. "Stored ones stay readable, are
-- copied in recovery and exported": no other condition looks at a header (proofs/StoredHeaders).
abbrev pub header_zero : Request → Bool
header_zero q = eqb q.header 0

-- 13, document 02, No. 5: "Refusal 13 now means eight or more unacknowledged", in place of document 01's "The issued record isn't acknowledged yet
-- (issue)". They are counted from the acknowledged mark; one above the issued mark, which can be handed in, leaves none unacknowledged.
abbrev pub unacknowledged : Server → Bool
unacknowledged v = leb (v.acked + window) v.issued

-- 14 "The log is full: issued = N"
abbrev pub full : ℕ → Server → Bool
full N v = eqb v.issued N

-- 23, document 02, No. 1: "given by issue, just after 14, when issued less the starting mark is K or more". The difference is that of the
-- numbers: an issued mark below the starting one, which can be handed in, is never that much more.
abbrev pub checkpoint_due : ℕ → Server → Bool
checkpoint_due K v = leb (v.start + K) v.issued

-- 15, document 02, No. 2: "Refusal 15 is given only if an estimate is above the client's mark", in place of document 01's "A lock's estimate is not
-- below the client's mark (004: the client's mark must be higher)"; "the first such lock and its estimate are given"
abbrev pub is_held : Option HeldLock → Bool
is_held None = false
is_held (Some l) = true

abbrev pub held_by : Option HeldLock → List ℕ
held_by None = []
held_by (Some l) = l.lock ∷ l.estimate ∷ []

abbrev pub lock_row : Option HeldLock → Row
lock_row t = record { number = 15; holds = is_held t; values = held_by t }

-- 16 "There is nothing to do: send and i's mark isn't issued − 1; copy and b's mark isn't below a's; trim and i isn't above the mark; read
-- and ID is 0, above i's mark or above acknowledged"; in place of send's part, document 02, No. 5: "Refusal 16 for send now means that no held
-- record follows the replica's mark."
abbrev pub nothing_to_send : Server → ℕ → Bool
nothing_to_send v i = not (holds v (mark_at v i + 1))

abbrev pub nothing_to_copy : Server → ℕ → ℕ → Bool
nothing_to_copy v a b = not (ltb (mark_at v b) (mark_at v a))

abbrev pub nothing_to_trim : ℕ → Server → ℕ → Bool
nothing_to_trim d v i = not (ltb d (mark_at v i))

abbrev pub nothing_to_read : Server → ℕ → ℕ → Bool
nothing_to_read v i n = eqb n 0 || ltb (mark_at v i) n || ltb v.acked n

-- what a replica finds on its medium m. 18 "The replica has no valid slot"
abbrev pub is_neither : Current → Bool
is_neither First = false
is_neither Second = false
is_neither Neither = true

unfoldable pub no_slot : List ℕ → Bool
no_slot m = is_neither (current_of m)

-- 19 "Its promise is above the session (prepare) or differs from it (others)"
unfoldable pub promise_above : ℕ → List ℕ → Bool
promise_above session m = ltb session (stored_slot m).promise

unfoldable pub promise_differs : ℕ → List ℕ → Bool
promise_differs session m = not (eqb (stored_slot m).promise session)

-- 20 "Its stored mark differs from the server's record (not prepare)"
unfoldable pub mark_differs : ℕ → ℕ → List ℕ → Bool
mark_differs N recorded m = not (eqb (mark_of N m) recorded)

-- a replica that would decline: "A replica that declines writes nothing"
abbrev pub refuses_prepare : ℕ → List ℕ → Bool
refuses_prepare session m = no_slot m || promise_above session m

abbrev pub refuses : ℕ → ℕ → ℕ → List ℕ → Bool
refuses N session recorded m = no_slot m || promise_differs session m || mark_differs N recorded m

-- the same of server v and replica i
abbrev pub refuses_at : ℕ → Server → List ℕ → ℕ → Bool
refuses_at N v media i = refuses N v.session (mark_at v i) (medium_at N i media)

-- 17 "Copy, and a would meet 18, 19 or 20"; document 02, No. 10: "copying from [a restored replica] meets refusal 17". Once it is a member it is ordinary, so
-- this is asked of an opening server alone.
abbrev pub restored_source : Server → ℕ → Bool
restored_source v a = is_opening v.phase && restored_at v a

abbrev pub unfit_source : ℕ → Server → List ℕ → ℕ → Bool
unfit_source N v media a = restored_source v a || refuses_at N v media a

-- 1 once more, document 02, No. 3: "Slices of other than the exact lengths .. meet refusal 1; for an export's two files this is checked after 20 and seen
-- only if the message is answered". What is exported is "a member's log, up to the lesser of its mark and the acknowledged one".
abbrev pub exported_mark : Server → ℕ → ℕ
exported_mark v i = min (mark_at v i) v.acked

abbrev pub exported_places : ℕ → Server → ℕ → List ℕ → List (List ℕ)
exported_places N v i media = places_from (exported_mark v i) 1 (medium_at N i media)

unfoldable pub other_sizes : List (List ℕ) → Files → Bool
other_sizes ps files =
    not (eqb (length files.data_file) (data_size ps)) || not (eqb (length files.index_file) (index_size (length ps)))

-- 21 "A number to be raised is at its top (take, reassign)": sessions have 64 bits, generations 32. reassign has no fate. Document 02, No. 10: "Restore uses
-- refusals 1, 2, 4 and 21", and raises the session; it has no fate either.
abbrev pub session_at_top : ℕ → Bool
session_at_top s = eqb (s + 1) (2 ^ 64)

abbrev pub generation_at_top : ℕ → Bool
generation_at_top g = eqb (g + 1) (2 ^ 32)

-- 22 "The register's session isn't the server's (open)"
abbrev pub session_differs : Register → Server → Bool
session_differs g v = not (eqb g.session v.session)

-- 30, document 02, No. 10: "number 30 is given last, when the bytes have no valid slot"
abbrev pub no_backup_slot : List ℕ → Bool
no_backup_slot backup = no_slot backup

-- "18 to 22 are seen only if the message is answered, and otherwise it is silent"
abbrev pub answered : Fate → Bool
answered Answered = true
answered Lost = false
answered AnswerLost = false
answered (Cut w l) = false

abbrev pub seen : Fate → ℕ → Bool → Row
seen f n b = row n (answered f && b)

-- ================ the lists

-- "Checked in this order": the order of the numbers, which each call's own list follows (proofs/Declines); 29, which is a recovery's alone (crate
-- recovery), is "just after 5", 28 "just after 12", 23 "just after 14", the 1 of an export's two files "is checked after 20", and 30 is "given last"
abbrev pub order : List ℕ
order =
    1 ∷ 2 ∷ 3 ∷ 4 ∷ 5 ∷ 29 ∷ 6 ∷ 7 ∷ 8 ∷ 9 ∷ 10 ∷ 11 ∷ 12 ∷ 28 ∷ 13 ∷ 14 ∷ 23 ∷ 15 ∷ 16 ∷ 17 ∷ 18 ∷ 19 ∷ 20 ∷ 1 ∷ 21 ∷ 22 ∷ 30 ∷ []

-- what a call is checked for: before anything is looked at, before its message is sent, and by the receiver of the message
pub record Checks : Type 0 where
  pub admission : List Row
  pub sending : List Row
  pub receiving : List Row

-- of every call; of every call that names a server; of every call for a server in some phases; of every call that names a replica too
abbrev pub cluster_rows : Shape → State → List Row
cluster_rows h x = row 1 (outside h (length x.media) (length x.tables)) ∷ row 2 (mark_above h x.records) ∷ []

abbrev pub server_rows : Shape → State → ℕ → List Row
server_rows h x s = cluster_rows h x ++ (row 3 (no_server_at s) ∷ [])

abbrev pub phase_rows : Shape → State → ℕ → Phases → List Row
phase_rows h x s phases = server_rows h x s ++ (row 5 (wrong_phase phases (server_at x.records s)) ∷ [])

abbrev pub replica_rows : Shape → State → ℕ → Bool → Phases → List Row
replica_rows h x s unnamed phases = server_rows h x s ++ (row 4 unnamed ∷ row 5 (wrong_phase phases (server_at x.records s)) ∷ [])

-- of a restore, which names a replica and no server
abbrev pub restore_rows : Shape → State → ℕ → List ℕ → List Row
restore_rows h x i backup =
    row 1 (outside h (length x.media) (length x.tables) || other_length h.places backup)
    ∷ row 2 (mark_above h x.records)
    ∷ row 4 (no_replica_at h.replicas i)
    ∷ []

-- before a message to replica i, by server v: of any, and of those that are checked for more
abbrev pub prepare_rows : Shape → Fate → List ℕ → List Row
prepare_rows h f given = row 6 (unfit h.places given f) ∷ []

abbrev pub message_rows : Shape → Server → ℕ → Fate → List ℕ → List Row
message_rows h v i f given = row 6 (unfit h.places given f) ∷ row 7 (replica_out v i) ∷ []

abbrev pub trim_rows : Shape → Server → ℕ → Fate → List ℕ → List Row
trim_rows h v i f given =
    message_rows h v i f given ++ (row 8 (undecided h.replicas v) ∷ row 16 (nothing_to_trim (vote_mark h.replicas v) v i) ∷ [])

abbrev pub send_rows : Shape → Server → ℕ → Fate → List ℕ → List Row
send_rows h v i f given = message_rows h v i f given ++ (row 16 (nothing_to_send v i) ∷ [])

abbrev pub read_rows : Shape → Server → ℕ → ℕ → Fate → List ℕ → List Row
read_rows h v i n f given = message_rows h v i f given ++ (row 16 (nothing_to_read v i n) ∷ [])

abbrev pub copy_rows : Shape → Server → List ℕ → ℕ → ℕ → Fate → List ℕ → List Row
copy_rows h v media a b f given =
    row 6 (unfit h.places given f)
    ∷ row 7 (replica_out v a || replica_out v b)
    ∷ row 16 (nothing_to_copy v a b)
    ∷ row 17 (unfit_source h.places v media a)
    ∷ []

-- by a replica, which server v has sent a message to: prepare's, and any other
abbrev pub prepared_rows : ℕ → List ℕ → Fate → List Row
prepared_rows session m f = seen f 18 (no_slot m) ∷ seen f 19 (promise_above session m) ∷ []

abbrev pub received_rows : ℕ → ℕ → ℕ → List ℕ → Fate → List Row
received_rows N session recorded m f =
    seen f 18 (no_slot m) ∷ seen f 19 (promise_differs session m) ∷ seen f 20 (mark_differs N recorded m) ∷ []

abbrev pub received_at : ℕ → Server → ℕ → List ℕ → Fate → List Row
received_at N v i media f = received_rows N v.session (mark_at v i) (medium_at N i media) f

-- an export's: the replica's, then the server's of the two files
abbrev pub exported_rows : ℕ → Server → ℕ → List ℕ → Fate → Files → List Row
exported_rows N v i media f files = received_at N v i media f ++ (seen f 1 (other_sizes (exported_places N v i media) files) ∷ [])

-- issue's own: under a pair of limits, of a request with so many bytes of data, by a server's record and lock table
abbrev pub request_rows : Shape → Limits → Server → Request → ℕ → List ℕ → List ℕ → List Row
request_rows h l v q size table locks =
    row 10 (other_generation v q)
    ∷ row 11 (client_ahead v q)
    ∷ row 12 (too_much l size (length locks))
    ∷ row 28 (header_zero q)
    ∷ row 13 (unacknowledged v)
    ∷ row 14 (full h.places v)
    ∷ row 23 (checkpoint_due h.interval v)
    ∷ lock_row (first_held table locks q.mark)
    ∷ []

-- what an issue with this data and these locks is checked for under a pair of limits
abbrev pub issue_checks : Limits → Shape → State → ℕ → Request → List ℕ → List ℕ → Checks
issue_checks l h x s q content locks =
    record {
      admission = phase_rows h x s only_open;
      sending = request_rows h l (server_at x.records s) q (length content) (table_at s x.tables) locks;
      receiving = [];
    }

abbrev pub checks_of : Shape → State → Input → Call → Checks
checks_of h x p (call.Take s f) =
    record {
      admission = phase_rows h x s only_idle;
      sending = row 6 (is_cut f) ∷ [];
      receiving = seen f 21 (session_at_top x.records.register.session) ∷ [];
    }
checks_of h x p (call.Prepare s i f) =
    let v = server_at x.records s in
    record {
      admission = replica_rows h x s (no_replica_at h.replicas i) only_opening;
      sending = prepare_rows h f p.given;
      receiving = prepared_rows v.session (medium_at h.places i x.media) f;
    }
checks_of h x p (call.Copy s a b f) =
    let v = server_at x.records s in
    record {
      admission = replica_rows h x s (not_two h.replicas a b) opening_or_open;
      sending = copy_rows h v x.media a b f p.given;
      receiving = received_at h.places v b x.media f;
    }
checks_of h x p (call.Trim s i f) =
    let v = server_at x.records s in
    record {
      admission = replica_rows h x s (no_replica_at h.replicas i) only_opening;
      sending = trim_rows h v i f p.given;
      receiving = received_at h.places v i x.media f;
    }
checks_of h x p (call.Open s f) =
    let v = server_at x.records s in
    record {
      admission = phase_rows h x s only_opening;
      sending =
          row 6 (is_cut f)
          ∷ row 8 (undecided h.replicas v)
          ∷ row 9 (too_few_clean h.replicas v (vote_mark h.replicas v))
          ∷ [];
      receiving = seen f 22 (session_differs x.records.register v) ∷ [];
    }
-- document 02, No. 6: "Refusal 12 reads the pair that belongs to the client"
checks_of h x p (call.Issue s q) = issue_checks (limits_of q.client) h x s q p.content p.locks
checks_of h x p (call.Send s i f) =
    let v = server_at x.records s in
    record {
      admission = replica_rows h x s (no_replica_at h.replicas i) only_open;
      sending = send_rows h v i f p.given;
      receiving = received_at h.places v i x.media f;
    }
checks_of h x p (call.Note s i f) =
    let v = server_at x.records s in
    record {
      admission = replica_rows h x s (no_replica_at h.replicas i) only_open;
      sending = message_rows h v i f p.given;
      receiving = received_at h.places v i x.media f;
    }
checks_of h x p (call.Read s i n f) =
    let v = server_at x.records s in
    record {
      admission = replica_rows h x s (no_replica_at h.replicas i) only_open;
      sending = read_rows h v i n f p.given;
      receiving = received_at h.places v i x.media f;
    }
checks_of h x p (call.Export s i f) =
    let v = server_at x.records s in
    record {
      admission = replica_rows h x s (no_replica_at h.replicas i) only_open;
      sending = message_rows h v i f p.given;
      receiving = exported_rows h.places v i x.media f p.files;
    }
checks_of h x p (call.Stop s) = record { admission = server_rows h x s; sending = []; receiving = [] }
checks_of h x p call.Reassign =
    record { admission = cluster_rows h x; sending = row 21 (generation_at_top x.records.register.generation) ∷ []; receiving = [] }
checks_of h x p (call.Restore i) =
    record {
      admission = restore_rows h x i p.backup;
      sending = row 21 (session_at_top x.records.register.session) ∷ row 30 (no_backup_slot p.backup) ∷ [];
      receiving = [];
    }

-- a call's whole list
abbrev pub list_of : Checks → List Row
list_of k = k.admission ++ (k.sending ++ k.receiving)

abbrev pub rows_of : Shape → State → Input → List Row
rows_of h x p = list_of (checks_of h x p p.call)

-- the first number whose condition holds
pub data Verdict : Type 0 where
  pass : Verdict
  declined : ℕ → List ℕ → Verdict

unfoldable pub first_of : List Row → Verdict
first_of [] = pass
first_of (w ∷ ws) = cond w.holds (declined w.number w.values) (first_of ws)

-- a list checked after another one
unfoldable pub and_then : Verdict → List Row → Verdict
and_then pass ws = first_of ws
and_then (declined n values) ws = declined n values
