-- The history of a list of calls: what document 01, "Words of demand 3", says of sessions, their logs, what they acknowledge, and the
-- transaction that stands in a place. It is folded along the list: each call gets the state as the one before left it, and adds to the history.
-- Document 02, No. 10: a restore brings earlier bytes back, and "each place then holds again the transaction that it held at that earlier moment"; so a
-- history has the moments between its calls too (`past`, `told` of a restore).
-- The notation is explained at the head of Guarantee.antt.
-- Assumes nothing.
use Rattle.std.specs.Prelude.{ℕ, suc, max, Bool, true, false, not, cond, ◌&&◌, List, [], ◌∷◌, leb}
use Rattle.std.proofs.Math.Logic.{ite}
use Rattle.std.proofs.Math.Option.{Option, none, some}
use Rattle.std.proofs.Math.Decide.{ℕ_discrete}
use Rattle.fate.specs.declared.Fate.TheVariants.{Answered}
use Rattle.storage.specs.Places.{record_bytes, valid_place}
use Rattle.storage.specs.Log.{place_at}
use Rattle.storage.specs.Operations.{medium_at}
use Rattle.cluster.specs.declared.Shape.{Shape}
use Rattle.cluster.specs.declared.Call.{Call}
use Rattle.cluster.specs.declared.Call.TheVariants as call
use Rattle.cluster.specs.State.{State, fresh}
use Rattle.cluster.specs.Replies.{Reply, ok, no, silent}
use Rattle.cluster.specs.Refusals.{Input}
use Rattle.cluster.specs.Effects.{Result, issued_fields}
use Rattle.cluster.specs.Step.{step}
use Rattle.guarantee.specs.Registers.{changed}

-- ================ what a history holds

-- a call of the list with its arguments; for a call that opens a session, the replica that is read for the session's starting log; for a restore, the
-- moment at which its bytes stood on the replica, as the number of calls before it
pub record Element : Type 0 where
  pub input : Input
  pub reader : ℕ
  pub moment : ℕ

-- An issue call: "A transaction's locks and client mark are those of its issue call, not of another with equal bytes."
pub record Transaction : Type 0 where
  pub call : ℕ  -- which one: so many calls of the list come before it
  pub locks : List ℕ
  pub mark : ℕ  -- the client's

-- what a log holds under an ID: a record's bytes, and whose they are
pub record Logged : Type 0 where
  pub bytes : List ℕ
  pub transaction : Transaction

pub record Session : Type 0 where
  pub opened : Bool
  pub start : ℕ  -- its starting mark
  pub starting : ℕ → Option Logged  -- ID: what stood on the replica that was read when it was opened
  pub issues : ℕ → Option Logged  -- ID: the record that it issued under this ID
  pub acknowledged : ℕ  -- the highest ID that it ever acknowledged

-- "Its log is, up to that mark, what then stands on a replica whose entry this call sets to the session (whichever such replica is read),
-- then each record it issued under its ID."
abbrev pub log : Session → ℕ → Option Logged
log z n = cond (leb n z.start) (z.starting n) (z.issues n)

-- what the replicas held at a moment between two calls: the media, and for each replica and place whose record was put there
pub record Earlier : Type 0 where
  pub media : List ℕ
  pub standing : ℕ → ℕ → Option Transaction

pub record History : Type 0 where
  pub calls : ℕ  -- how many calls there were
  pub current : ℕ → ℕ  -- server: "the session that its last take answered", 0 before the first
  pub standing : ℕ → ℕ → Option Transaction  -- replica, place: whose record was put there
  pub sessions : ℕ → Session
  pub past : ℕ → Earlier  -- the moment after so many calls, up to the present one; the fresh cluster where so many are not made yet

-- ================ what a call adds

-- the function f, but with the value v at i
unfoldable pub set_at : {A : Type 0} → (ℕ → A) → ℕ → A → ℕ → A
set_at f i v j = ite (ℕ_discrete i j) v (f j)

-- The value that a call answers, or d if it answers none. Where d is 0 below: a send or copy that is not answered acknowledges nothing, and 0
-- says just that, since IDs count from 1. An issue that is not declined answers its ID, and an open that changes the register answers its mark
-- under the fate answered (proofs/calls/Open.antt `open_answers`), so there the 0 never arises.
abbrev pub value_or : ℕ → Reply → ℕ
value_or d (ok []) = d
value_or d (ok (v ∷ vs)) = v
value_or d (no n vs) = d
value_or d silent = d

abbrev pub with_current : History → ℕ → ℕ → History
with_current H s n =
    record { calls = H.calls; current = set_at H.current s n; standing = H.standing; sessions = H.sessions; past = H.past }

abbrev pub with_standing : History → ℕ → (ℕ → Option Transaction) → History
with_standing H i places =
    record { calls = H.calls; current = H.current; standing = set_at H.standing i places; sessions = H.sessions; past = H.past }

abbrev pub with_session : History → ℕ → Session → History
with_session H s z =
    record { calls = H.calls; current = H.current; standing = H.standing; sessions = set_at H.sessions s z; past = H.past }

-- place n of replica i is valid
abbrev pub valid_at : ℕ → State → ℕ → ℕ → Bool
valid_at N x i n = valid_place n (place_at n (medium_at N i x.media))

-- "A send that makes a place valid puts there ..": the places of replica i that are valid after a call and were not before it get new transactions
abbrev pub put : ℕ → State → State → ℕ → (ℕ → Option Transaction) → History → History
put N x y i new H =
    with_standing H i (λ n. cond (not (valid_at N x i n) && valid_at N y i n) (new n) (H.standing i n))

abbrev pub transaction_in : Option Logged → Option Transaction
transaction_in none = none
transaction_in (some l) = some l.transaction

-- "It acknowledges every ID up to its starting mark and up to each answer of its sends and, once opened, of its copies."
abbrev pub acknowledging : History → ℕ → ℕ → History
acknowledging H s n =
    let z = H.sessions s in
    with_session H s
    (record { opened = z.opened; start = z.start; starting = z.starting; issues = z.issues; acknowledged = max z.acknowledged n })

-- what a copy's answer counts for
abbrev pub once_opened : Bool → ℕ → ℕ
once_opened opened n = cond opened n 0

-- what stands in place n of replica i: the bytes of the place, if it is valid, and the transaction that was put there
abbrev pub logged_as : List ℕ → Option Transaction → Option Logged
logged_as bytes none = none
logged_as bytes (some t) = some (record { bytes = bytes; transaction = t })

abbrev pub stands : ℕ → State → History → ℕ → ℕ → Option Logged
stands N x H i n = cond (valid_at N x i n) (logged_as (place_at n (medium_at N i x.media)) (H.standing i n)) none

-- the same arguments beside another call
abbrev pub with_call : Call → Input → Input
with_call c p =
    record {
      call = c;
      content = p.content;
      locks = p.locks;
      given = p.given;
      stamp = p.stamp;
      files = p.files;
      backup = p.backup;
    }

-- "its starting mark is what that call answers under the fate answered"
abbrev pub answered_open : Input → ℕ → Input
answered_open p s = with_call (call.Open s Answered) p

abbrev pub starting_mark : Shape → State → Input → ℕ → ℕ
starting_mark h x p s = value_or 0 (step h x (answered_open p s)).reply

abbrev pub opened_at : History → ℕ → ℕ → (ℕ → Option Logged) → History
opened_at H s d starting =
    let z = H.sessions s in
    with_session H s
    (record { opened = true; start = d; starting = starting; issues = z.issues; acknowledged = max z.acknowledged d })

abbrev pub issued_as : History → ℕ → ℕ → Logged → History
issued_as H s n l =
    let z = H.sessions s in
    with_session H s
    (record { opened = z.opened; start = z.start; starting = z.starting; issues = set_at z.issues n (some l); acknowledged = z.acknowledged })

-- A call of state x that is not declined, with its result r. "A server's calls belong to the session that its last take answered."
unfoldable pub told : Shape → State → Element → Result → History → Call → History
told h x e r H (call.Take s f) = with_current H s (value_or (H.current s) r.reply)
-- "a copy puts there the one in a's place of the same number"
told h x e r H (call.Copy s a b f) =
    let z = H.current s in
    acknowledging (put h.places x r.state b (H.standing a) H) z (once_opened (H.sessions z).opened (value_or 0 r.reply))
-- "A session is opened when an open call of it changes the register, even if the answer is lost"; its log is "what then stands": an open changes
-- no medium, so the state before the call is as good as the one after it.
told h x e r H (call.Open s f) =
    cond (changed x.records.register r.state.records.register)
    (opened_at H (H.current s) (starting_mark h x e.input s) (stands h.places x H e.reader))
    H
-- the issued record is the one that document 01 lays out for the request, its data and the ID that it is given
told h x e r H (call.Issue s q) =
    let n = value_or 0 r.reply in
    issued_as H (H.current s) n
    (record {
      bytes = record_bytes (issued_fields n q) e.input.content;
      transaction = record { call = H.calls; locks = e.input.locks; mark = q.mark };
    })
-- "A send that makes a place valid puts there the transaction of its session's issue that answered this place's number"
told h x e r H (call.Send s i f) =
    let z = H.current s in
    acknowledging (put h.places x r.state i (λ n. transaction_in ((H.sessions z).issues n)) H) z (value_or 0 r.reply)
told h x e r H (call.Prepare s i f) = H
told h x e r H (call.Trim s i f) = H
told h x e r H (call.Note s i f) = H
told h x e r H (call.Read s i n f) = H
told h x e r H (call.Export s i f) = H
told h x e r H (call.Stop s) = H
told h x e r H call.Reassign = H
-- document 02, No. 10: "each place then holds again the transaction that it held at that earlier moment"
told h x e r H (call.Restore i) = with_standing H i ((H.past e.moment).standing i)

-- "A declined call answers nothing."
unfoldable pub heard : Reply → History → History → History
heard (ok vs) H more = more
heard silent H more = more
heard (no n vs) H more = H

-- one call more, which has left these media: a moment of its own
abbrev pub counted : List ℕ → History → History
counted media H =
    record {
      calls = suc H.calls;
      current = H.current;
      standing = H.standing;
      sessions = H.sessions;
      past = set_at H.past (suc H.calls) (record { media = media; standing = H.standing });
    }

-- ================ along the list

-- the state that a call leaves, and the history so far
pub record Moment : Type 0 where
  pub state : State
  pub history : History

unfoldable pub next : Shape → Moment → Element → Moment
next h m e =
    let r = step h m.state e.input in
    let H = m.history in
    record { state = r.state; history = counted r.state.media (heard r.reply H (told h m.state e r H e.input.call)) }

abbrev pub unopened : Session
unopened = record { opened = false; start = 0; starting = λ n. none; issues = λ n. none; acknowledged = 0 }

unfoldable pub beginning : Shape → Moment
beginning h =
    record {
      state = fresh h;
      history =
          record {
            calls = 0;
            current = λ s. 0;
            standing = λ i n. none;
            sessions = λ s. unopened;
            past = λ k. record { media = (fresh h).media; standing = λ i n. none };
          };
    }

-- "Each call of its list gets register, media, server records and lock tables as the one before left them, with the cluster's R and N"; document 02,
-- No. 1: K is "fixed and handed to each call beside R and N". h is all three.
unfoldable pub along : Shape → Moment → List Element → Moment
along h m [] = m
along h m (e ∷ es) = along h (next h m e) es
