-- A RECOVERY BY A DRIVER. Document 02, No. 9: "Operators call prepare, copy and open themselves. Add a driver for an idle server, a list of replicas and one of
-- fates". What a recovery is, is the list of the calls that it makes, each of which follows from the state before it (`calls_of`); what it leaves is what
-- `step` leaves, one call after another (`recovered`).
-- Assumes nothing.
use Rattle.std.specs.Prelude.{ℕ, zero, suc, ◌+◌, ◌-◌, ◌*◌, max, List, [], ◌∷◌, ◌++◌, Bool, true, false, not, cond, ◌&&◌, ◌||◌, length, get_or, replicate, ltb, eqb}
use Rattle.octets.specs.Octets.{part}
use Rattle.fate.specs.declared.Fate.{Fate}
use Rattle.fate.specs.declared.Fate.TheVariants.{Answered}
use Rattle.storage.specs.Sizes.{place_size}
use Rattle.segment.specs.Header.{key_size}
use Rattle.cluster.specs.declared.Shape.{Shape}
use Rattle.cluster.specs.declared.Server.{Server}
use Rattle.cluster.specs.declared.Call.{Call}
use Rattle.cluster.specs.declared.Call.TheVariants as call
use Rattle.cluster.specs.State.{State, server_at, mark_at, active_at, votes_at}
use Rattle.cluster.specs.Replies.{Reply, ok, no, silent}
use Rattle.cluster.specs.Refusals.{Input, Row, row, outside, mark_above, no_server_at, no_replica_at, only_idle, wrong_phase, Verdict, pass, declined, first_of}
use Rattle.cluster.specs.Effects.{no_bytes}
use Rattle.cluster.specs.Step.{step}

-- ================ what a recovery is asked for

-- a server, a list of replicas, "one of fates, one a call", and beside the fates the bytes that their torn writes leave, 72 for each
pub record Recovery : Type 0 where
  pub server : ℕ
  pub listed : List ℕ
  pub fates : List Fate
  pub given : List ℕ

-- ================ its calls

-- how far it has come: the state, the last reply, and how many calls it made
pub record Trail : Type 0 where
  pub state : State
  pub reply : Reply
  pub count : ℕ

-- one more call, and one after another
abbrev pub one : Shape → Trail → Input → Trail
one h t p = let r = step h t.state p in record { state = r.state; reply = r.reply; count = t.count + 1 }

unfoldable pub played : Shape → Trail → List Input → Trail
played h t [] = t
played h t (p ∷ ps) = played h (one h t p) ps

-- "one a call (answered once these run out)": the fate of the call after k others, and the bytes that lie beside it
unfoldable pub fate_at : Recovery → ℕ → Fate
fate_at d k = get_or d.fates k Answered

unfoldable pub given_at : Recovery → ℕ → List ℕ
given_at d k = cond (ltb k (length d.fates)) (part (k * place_size) place_size d.given) no_bytes

-- a call without data and locks, no export and no restore
abbrev pub bare : Call → List ℕ → Input
bare c given =
    record {
      call = c;
      content = [];
      locks = [];
      given = given;
      stamp = record { time = 0; key = replicate key_size 0 };
      files = record { data_file = []; index_file = [] };
      backup = [];
    }

-- the next call: those to the register have no bytes beside them
abbrev pub taking : Recovery → Trail → Input
taking d t = bare (call.Take d.server (fate_at d t.count)) []

abbrev pub preparing : Recovery → Trail → ℕ → Input
preparing d t i = bare (call.Prepare d.server i (fate_at d t.count)) (given_at d t.count)

abbrev pub copying : Recovery → Trail → ℕ → ℕ → Input
copying d t a b = bare (call.Copy d.server a b (fate_at d t.count)) (given_at d t.count)

abbrev pub opening : Recovery → Trail → Input
opening d t = bare (call.Open d.server (fate_at d t.count)) []

abbrev pub is_ok : Reply → Bool
is_ok (ok values) = true
is_ok (no n values) = false
is_ok silent = false

abbrev pub server_of : Recovery → Trail → Server
server_of d t = server_at t.state.records d.server

-- "prepares in list order"; "It passes over a replica that declines or is silent"
unfoldable pub prepares : Shape → Recovery → Trail → List ℕ → List Input
prepares h d t [] = []
prepares h d t (i ∷ is) = let p = preparing d t i in p ∷ prepares h d (one h t p) is

-- "the highest mark known after the prepares", and "the first that then had it": v is the server's record then. Document 02, No. 10, of restored replicas: "The
-- driver takes its highest mark from the others, copies from none such"; the others are those that vote. With none of them known the mark is 0, and there is
-- nothing to copy.
abbrev pub voter_mark : Server → ℕ → ℕ
voter_mark v i = cond (votes_at v i) (mark_at v i) 0

unfoldable pub highest_known : Server → List ℕ → ℕ
highest_known v [] = 0
highest_known v (i ∷ is) = max (voter_mark v i) (highest_known v is)

unfoldable pub first_at : Server → ℕ → List ℕ → ℕ
first_at v m [] = 0
first_at v m (i ∷ is) = cond (votes_at v i && eqb (mark_at v i) m) i (first_at v m is)

-- "copies each known replica .. up to" the mark m, restored ones too ("It may receive copies"), from a to b: a copy while b is below it, until one is without
-- ok. There are at most so many turns; at most what b lacks are needed, since each copy with ok brings at least one record (proofs/TurnsEnough `enough`).
unfoldable pub copies : Shape → Recovery → ℕ → ℕ → ℕ → ℕ → Trail → List Input
copies h d a m b zero t = []
copies h d a m b (suc turns) t =
    let p = copying d t a b in
    cond (ltb (mark_at (server_of d t) b) m) (p ∷ cond (is_ok (one h t p).reply) (copies h d a m b turns (one h t p)) []) []

-- what b lacks of the mark m
abbrev pub lacks : Server → ℕ → ℕ → ℕ
lacks v m b = m - mark_at v b

-- of one replica: none if it isn't known
abbrev pub copies_to : Shape → Recovery → ℕ → ℕ → ℕ → Trail → List Input
copies_to h d a m b t = cond (active_at (server_of d t) b) (copies h d a m b (lacks (server_of d t) m b) t) []

-- "copies each known replica in that order": one to the end before the next
unfoldable pub all_copies : Shape → Recovery → ℕ → ℕ → Trail → List ℕ → List Input
all_copies h d a m t [] = []
all_copies h d a m t (b ∷ bs) = let ps = copies_to h d a m b t in ps ++ all_copies h d a m (played h t ps) bs

-- "from the first that then had it"
abbrev pub catching_up : Shape → Recovery → Trail → List Input
catching_up h d t =
    let v = server_of d t in
    let m = highest_known v d.listed in
    all_copies h d (first_at v m d.listed) m t d.listed

-- what follows a take with ok: the prepares, the copies, and an open, whatever they came to
unfoldable pub after_take : Shape → Recovery → Trail → List Input
after_take h d t =
    let ps = prepares h d t d.listed in
    let t' = played h t ps in
    let cs = catching_up h d t' in
    ps ++ (cs ++ (opening d (played h t' cs) ∷ []))

-- "It takes"; "a take or open without ok ends it"
unfoldable pub from_take : Shape → Recovery → Trail → List Input
from_take h d t = let p = taking d t in p ∷ cond (is_ok (one h t p).reply) (after_take h d (one h t p)) []

-- ================ why it is declined

-- 29 "when the list repeats a replica or names none"
unfoldable pub contains : List ℕ → ℕ → Bool
contains [] i = false
contains (k ∷ ks) i = eqb k i || contains ks i

unfoldable pub repeats : List ℕ → Bool
repeats [] = false
repeats (i ∷ is) = contains is i || repeats is

abbrev pub names_none : List ℕ → Bool
names_none [] = true
names_none (i ∷ is) = false

-- 4 "A listed number not below R meets refusal 4"
unfoldable pub not_below : ℕ → List ℕ → Bool
not_below r [] = false
not_below r (i ∷ is) = no_replica_at r i || not_below r is

-- 1 "or a lent slice has another length": the given bytes are 72 for each fate
abbrev pub other_given : Recovery → Bool
other_given d = not (eqb (length d.given) (length d.fates * place_size))

-- "The driver itself declines only by 1 to 5 and 29"; 29 "before it sends anything, just after 5"
abbrev pub recovery_rows : Shape → State → Recovery → List Row
recovery_rows h x d =
    row 1 (outside h (length x.media) (length x.tables) || other_given d)
    ∷ row 2 (mark_above h x.records)
    ∷ row 3 (no_server_at d.server)
    ∷ row 4 (not_below h.replicas d.listed)
    ∷ row 5 (wrong_phase only_idle (server_at x.records d.server))
    ∷ row 29 (repeats d.listed || names_none d.listed)
    ∷ []

-- ================ a recovery

-- a recovery that is declined makes no call, and its reply is its own (for another silent stands there until its first call, and is never given)
abbrev pub own : Verdict → Reply
own pass = silent
own (declined n values) = no n values

abbrev pub unless_declined : Verdict → List Input → List Input
unless_declined pass ps = ps
unless_declined (declined n values) ps = []

unfoldable pub begun : Shape → State → Recovery → Trail
begun h x d = record { state = x; reply = own (first_of (recovery_rows h x d)); count = 0 }

-- the calls that it makes
unfoldable pub calls_of : Shape → State → Recovery → List Input
calls_of h x d = unless_declined (first_of (recovery_rows h x d)) (from_take h d (begun h x d))

-- what it leaves: "It gives the last reply and its count of calls."
unfoldable pub recovered : Shape → State → Recovery → Trail
recovered h x d = played h (begun h x d) (calls_of h x d)
