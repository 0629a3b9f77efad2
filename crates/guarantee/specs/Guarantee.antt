-- THE GUARANTEE BETWEEN SESSIONS, condition 3, as one statement about a whole list of calls. The words stand in History.antt; the calls are those
-- of the crate cluster, which the running calls are proved to do. proofs/Guarantee.antt has the theorem: `guarantee : Guarantee`.
--
-- The demand, clause by clause, and where it is said:
--   "Each call of its list gets register, media, server records and lock tables as the one before left them, with the cluster's R and N; nobody else
--     writes these meanwhile." Document 02, No. 1: "an interval K, 1 to N, fixed and handed to each call beside R and N"
--                                                                       History.antt `along`, from the fresh cluster's `beginning`; `InRange`, below
--   "It is one statement about the whole list, not one for each call."  `Guarantee`, below: for every list es
--   "A declined call answers nothing."                                  History.antt `heard`
--   "A server's calls belong to the session that its last take answered"  History.antt `current`, told of a take
--   "of two, the lower number is the earlier."                          s < u in `Kept.start`
--   "A session is opened when an open call of it changes the register, even if the answer is lost"  History.antt `told` of an open
--   "its starting mark is what that call answers under the fate answered."  History.antt `starting_mark`
--   "Its log is, up to that mark, what then stands on a replica whose entry this call sets to the session (whichever such replica is read), then each
--     record it issued under its ID."                                   History.antt `log`, `stands`; `Covered.reads`, below
--   "It acknowledges every ID up to its starting mark and up to each answer of its sends and, once opened, of its copies."  History.antt `opened_at`,
--                                                                       `acknowledging`, `once_opened`
--   "A send that makes a place valid puts there the transaction of its session's issue that answered this place's number; a copy puts there the one in
--     a's place of the same number."                                    History.antt `put`, `told` of a send and of a copy
--   "A transaction's locks and client mark are those of its issue call, not of another with equal bytes."  History.antt `Transaction`
-- and of document 02, No. 10:
--   "A damaged medium is replaced by bytes that the same replica held between two earlier calls."  `Covered.restores`, below: at a moment from the fresh
--     cluster up to the one just before the restore. A restore that is declined may have any bytes.
--   "Whoever booked before the restore must still find the booking, for lists that include this call with such bytes"  `Guarantee`, below: a list may hold
--     any number of restores, and the conclusions are the same
--   "each place then holds again the transaction that it held at that earlier moment (at any of them, if the bytes stood more than once)."  History.antt
--     `told` of a restore. The element says which moment is meant, so that the conclusions hold for each at which the bytes stood.
-- Of any two sessions that are opened in a list:
--   (1) all that the earlier ever acknowledges lies at or below the later one's starting mark: `Kept.start`
--   (2) both logs hold the same bytes under each ID that both acknowledge: `Kept.same`. There is one x that both logs have under n, bytes and
--       transaction: they are even of the same issue call. s = u is included: a log has something under each ID that its session acknowledges.
--   (3) no transaction in a log shares a lock with one that stands in that log above its client's mark and below its own ID: `Kept.apart`. Document 02,
--       No. 2, asks for the same: "Two transactions that share a lock must still never both stand in one opened session's log with the later one's client
--       unaware of the earlier". A client whose mark is the earlier one's ID is aware of it.
--
-- Document 02, No. 5: "A server stopped with records in flight is one more case that the recovery guarantee has to cover, whichever of the eight reached
-- whom." Each such case is a list: issues, sends to any members in any order under any fate, then a stop, or calls of another server while this one still
-- sends. The statement is about every list, and no conclusion counts what is in flight (protocol specs/Events.antt says why the proof need not).
--
-- Document 02, No. 9: a list "may hold" a recovery by a driver, "as the calls it makes". Recoveries.antt has the same conclusions over such lists.
--
-- Each list of calls whose arguments fit, its restores with bytes that stood, is one of these lists: proofs/Readable.antt `readable`. With (1) and (2): all
-- that the earlier of two opened sessions ever acknowledges is in the later one's log, the same bytes (proofs/Whole.antt `whole`). Of sessions nothing is
-- written over: one is opened once and issues an ID once (proofs/Once.antt `once`), and none more than K above its starting mark (proofs/Interval.antt
-- `interval`). What an open server holds of an ID is what its session issued under it (proofs/InFlight.antt `in_flight`). A client that has read all that
-- is issued is not declined by 15, and one that has read all that is acknowledged only for a record in flight (proofs/Readers.antt `readers`).
-- Running `apply` over a list from `fresh::start` leaves the states of `along` (proofs/Running.antt `runs`). The crate guarantee_example works five lists
-- out, one of them with a server that is stopped while its records have reached different replicas, one with three recoveries, one with a restore.
--
-- How to read it, if you do not know the notation:
--   x : A                  x is of the type A; ℕ are the numbers from 0, Bool is true or false, Type 0 is what is to be shown
--   (x : A) → B            for every x of type A, B; without a name: if A, then B. A → B is also a function from A to B
--   f a b                  f of a and b; f (g a) is f of g of a; λ n. t is the function that gives t for n
--   A × B, (x : A) × B     A and B; there is an x of type A for which B. A ⊎ B: A or B. ¬ A: not A
--   a ≡ b                  a and b are equal
--   r.field               the field of a record; record { field = v; .. } is a record, and `pub record` says which fields one has
--   [], x ∷ xs             the empty list; the list that begins with x and goes on with xs. List.Memᴰ k l: k is in l
--   none, some x           an Option: nothing, or x
--   cond b x y             x if the test b is true, else y; leb, eqb: the tests ≤ and =
--   let n = t in u         u, with n for t
--   abbrev, unfoldable     what follows is a definition (the two differ for the prover only); `use` names what is taken from other files
-- Assumes nothing.
use Rattle.std.specs.Prelude.{ℕ, ◌≤◌, ◌<◌, ◌^◌, ◌≡◌, ◌⊎◌, Bool, true, false, length}
use mathlib.Core.List.{List, [], ◌∷◌, Memᴰ}
use Rattle.std.proofs.Math.Option.{some}
use Rattle.octets.specs.Octets.{Bytes}
use Rattle.fate.specs.declared.Fate.{Fate}
use Rattle.storage.specs.Sizes.{place_size}
use Rattle.storage.specs.Operations.{medium_at}
use Rattle.cluster.specs.declared.Shape.{Shape}
use Rattle.cluster.specs.declared.Request.{Request}
use Rattle.cluster.specs.declared.Call.{Call}
use Rattle.cluster.specs.declared.Call.TheVariants as call
use Rattle.cluster.specs.State.{entry_at}
use Rattle.cluster.specs.Refusals.{Input}
use Rattle.guarantee.specs.Registers.{changed}
use Rattle.guarantee.specs.History.{Element, Transaction, Logged, log, History, Moment, next, beginning, along}

-- ================ for which clusters and lists

-- "R replicas (R = 1, 3, 5 or 7), each with a medium of N places (1 to 1,000)"; document 02, No. 1: "an interval K, 1 to N". "Bookings made before
-- the forced change must be found after it like any others": the change to a next session that K forces is one between two opened sessions, so
-- conclusions (1) and (2) say just that. No conclusion names K, and no proof needs to know its values.
pub record InRange (h : Shape) : Type 0 where
  pub replicas : (h.replicas ≡ 1) ⊎ (h.replicas ≡ 3) ⊎ (h.replicas ≡ 5) ⊎ (h.replicas ≡ 7)
  pub least : 1 ≤ h.places
  pub most : h.places ≤ 1000
  pub interval_least : 1 ≤ h.interval
  pub interval_most : h.interval ≤ h.places

-- Arguments within their widths, as far as the guarantee needs it. The types of the running calls say this, and more: here servers, replicas, IDs, marks
-- and locks may be any numbers, and so may the time and the key of an export and what lies in its two files. Which bytes a restore may have is said below
-- (`Covered.restores`).
pub record RequestFits (q : Request) : Type 0 where
  pub client : q.client < 2 ^ 32
  pub generation : q.generation < 2 ^ 32
  pub partition : q.partition < 2 ^ 32
  pub sequence : q.sequence < 2 ^ 64
  pub header : q.header < 2 ^ 32

-- the calls with a message to a replica: bytes for a torn write lie beside them. The other six read none, so that any may stand there.
abbrev pub messages : Call → Bool
messages (call.Take s f) = false
messages (call.Prepare s i f) = true
messages (call.Copy s a b f) = true
messages (call.Trim s i f) = true
messages (call.Open s f) = false
messages (call.Issue s q) = false
messages (call.Send s i f) = true
messages (call.Note s i f) = true
messages (call.Read s i n f) = true
messages (call.Export s i f) = true
messages (call.Stop s) = false
messages call.Reassign = false
messages (call.Restore i) = false

pub record Fits (p : Input) : Type 0 where
  pub given : messages p.call ≡ true → length p.given ≡ place_size  -- "Given bytes are 64", 72 since document 02, No. 7
  pub content : Bytes p.content
  pub request : (s : ℕ) (q : Request) → p.call ≡ call.Issue s q → RequestFits q

-- An element that the guarantee speaks of, declined or not: its arguments fit; for a call that opens a session the replica read is one "whose entry this
-- call sets to the session (whichever such replica is read)"; the bytes of a restore are what its replica held at the moment named. m is the moment
-- before the call.
pub record Covered (h : Shape) (m : Moment) (e : Element) : Type 0 where
  pub fits : Fits e.input
  pub reads : (s : ℕ) (f : Fate) → e.input.call ≡ call.Open s f
      → let g = m.state.records.register in
      let k = (next h m e).state.records.register in
      changed g k ≡ true → (e.reader < h.replicas) × ((entry_at k.entries e.reader).session ≡ m.history.current s)
  -- a restore that is not declined raises the register's session
  pub restores : (i : ℕ) → e.input.call ≡ call.Restore i
      → changed m.state.records.register (next h m e).state.records.register ≡ true
      → (e.moment ≤ m.history.calls) × (e.input.backup ≡ medium_at h.places i (m.history.past e.moment).media)

abbrev pub CoveredAll : Shape → Moment → List Element → Type 0
CoveredAll h m [] = Unit {0}
CoveredAll h m (e ∷ es) = Covered h m e × CoveredAll h (next h m e) es

-- ================ what holds

-- the two have a lock in common
abbrev pub Share : Transaction → Transaction → Type 0
Share x y = (k : ℕ) × Memᴰ k x.locks × Memᴰ k y.locks

pub record Kept (H : History) : Type 0 where
  -- (1)
  pub start : (s u : ℕ) → (H.sessions s).opened ≡ true → (H.sessions u).opened ≡ true → s < u
      → (H.sessions s).acknowledged ≤ (H.sessions u).start
  -- (2)
  pub same : (s u n : ℕ) → (H.sessions s).opened ≡ true → (H.sessions u).opened ≡ true
      → 1 ≤ n → n ≤ (H.sessions s).acknowledged → n ≤ (H.sessions u).acknowledged
      → (x : Logged) × (log (H.sessions s) n ≡ some x) × (log (H.sessions u) n ≡ some x)
  -- (3)
  pub apart : (s n m : ℕ) (x y : Logged) → (H.sessions s).opened ≡ true
      → log (H.sessions s) n ≡ some x → log (H.sessions s) m ≡ some y
      → x.transaction.mark < m → m < n → ¬ Share x.transaction y.transaction

abbrev pub Guarantee : Type 0
Guarantee = (h : Shape) → InRange h → (es : List Element) → CoveredAll h (beginning h) es → Kept (along h (beginning h) es).history
