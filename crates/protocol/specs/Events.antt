-- The events of the protocol: what each changes, when it may happen, and lists of them. A call on a cluster is a short list of events, and its
-- fate says how far the list goes. An event is atomic; those of different servers come in any order. s is the session of the calling server.
--
--   call         its events, where it isn't declined
--   take         take; then stop s, if the answer is lost. Lost: none.
--   prepare i    forget s i; promise s i; cut s i k, where k is the mark after the wiping, as far as that came; learn s i, if answered.
--                Lost, or the write of the slot was cut and the promise stayed: only forget s i.
--   copy a, b    opening: copy s a b; then forget s b, if silent. Nothing written: only forget s b.
--                open: as send to b, of what stands in a's place (proofs/Traces.antt: it is what a send would write, were it still held).
--   trim i       trim s i D k, where k is the mark after the wiping, as far as that came; then forget s i, if silent. Lost: only forget s i.
--   open         opens s D a; then stop s, if the answer is lost. Lost: only stop s.
--   issue        issue s x e
--   send i       append s i x, if the place became valid; hear s i, if answered; acknowledge s m in any case.
--   stop         stop s
--   note i       note s i, if the slot that it writes is the current one then; else none
--   restore i    restore i c, where c is what the bytes hold; no server, no fate
--   read, export, reassign: none, whatever the fate. Declined and answered: none.
--   Declined (18, 19, 20, 22) and not answered: forget s i (opening), acknowledge s m (send and copy while open), stop s (open).
--
-- A write that is cut may leave the old, the new, or torn bytes: a torn slot leaves the promise as it was, a torn wipe counts as done, a torn record as
-- not done. Marks are the stored ones; refusal 20 sees to it that they are the recorded ones too.
--
-- A guard (Can-..) is what the named refusal leaves when it is not met. The guards ask only what the guarantee rests on, so that more is allowed
-- than the calls do. Left out: that marks are within N (2, 14); that a dropped member is not used again (7); a request's generation,
-- acknowledged client mark, size and header (10, 11, 12, 28); how many records are in flight (13), and which records the server still holds (16); the
-- interval (23); that an opening server copies from no restored replica (17).
--
-- Document 02, No. 5: "A server stopped with records in flight is one more case that the recovery guarantee has to cover, whichever of the eight reached
-- whom." No event knows of eight. append is of any ID of the session that follows the replica's log, for any member at any time, and stop may come after
-- any event: so each member's log above the starting mark is a beginning of what the session issued, of a length of its own, and every way in which the
-- records may have reached the replicas is a list of events.
-- Assumes nothing.
use Rattle.std.specs.Prelude.{◌≡◌, Bool, true, false, not, cond, ◌&&◌, ℕ, suc, ◌≤◌, ◌<◌}
use mathlib.Core.List.{Memᴰ}
use Rattle.protocol.specs.Columns.{upd, upd², append_mark, append_place, count}
use Rattle.protocol.specs.State.{Tx, Idle, Opening, Open, State, Content}
use Rattle.protocol.specs.With.{with_register, with_replicas, with_low, with_servers, with_handed, with_opened, with_logs}
use Rattle.protocol.specs.Marks.{flagged?, Decided, clean, Reached}

-- ---- take: "raises the session by 1, hands the server that number, the generation and the entries; the server is opening and knows no replica"

abbrev pub after_take : State → State
after_take σ =
    let s = suc σ.session in
    let registered = with_register σ s σ.newest σ.unresolved σ.closing σ.restored in
    let served = with_servers registered (upd σ.phase s Opening) σ.known σ.recorded in
    with_handed served (upd σ.base s σ.newest) (upd σ.handed_unresolved s σ.unresolved) (upd σ.handed_closing s σ.closing)
    (upd σ.handed_restored s σ.restored)

-- ---- promise, the first of prepare: "the replica writes a slot with the new promise, other fields kept, unless the promise is equal"

abbrev pub after_promise : State → ℕ → ℕ → State
after_promise σ s i = with_replicas σ (upd σ.promise i s) σ.mark σ.place

pub record Can-promise (σ : State) (s i : ℕ) : Type 0 where
  pub phase : σ.phase s ≡ Opening
  pub below : σ.promise i ≤ s  -- 19: "Its promise is above the session (prepare)"

-- ---- cut, the second of prepare: "then truncates to the entry's closing mark if there is one"; document 02, No. 10: "Preparing a restored replica
-- truncates to its low-water mark." The entry is the one that take handed over. The log of i becomes k long.

abbrev pub after_cut : State → ℕ → ℕ → State
after_cut σ i k = with_replicas σ σ.promise (upd σ.mark i k) σ.place

pub record Can-cut (σ : State) (s i k : ℕ) : Type 0 where
  pub phase : σ.phase s ≡ Opening
  pub promise : σ.promise i ≡ s
  pub unknown : σ.known s i ≡ false  -- it was forgotten first: no recorded mark is read while the log shrinks
  -- an unresolved replica that is not restored keeps its log, whatever low-water mark it stores
  pub kept : σ.handed_restored s i ≡ false → σ.handed_unresolved s i ≡ true → σ.mark i ≤ k
  pub down : k ≤ σ.mark i

-- ---- learn, the last of prepare: "it answers its mark and is known"

abbrev pub after_learn : State → ℕ → ℕ → State
after_learn σ s i = with_servers σ σ.phase (upd² σ.known s i true) (upd² σ.recorded s i (σ.mark i))

pub record Can-learn (σ : State) (s i : ℕ) : Type 0 where
  pub phase : σ.phase s ≡ Opening
  pub promise : σ.promise i ≡ s
  -- the truncation came to its end
  pub whole : σ.handed_restored s i ≡ false → σ.handed_unresolved s i ≡ false → σ.mark i ≤ σ.handed_closing s i
  pub low : σ.handed_restored s i ≡ true → σ.mark i ≤ σ.low i  -- "to its low-water mark"

-- ---- forget: "an opening server forgets the replica (not known, recorded mark 0)". The mark stays here; nothing reads it until the next learn.

abbrev pub after_forget : State → ℕ → ℕ → State
after_forget σ s i = with_servers σ σ.phase (upd² σ.known s i false) σ.recorded

-- ---- copy, by an opening server: "ID (b's mark + 1) of known a is written in known b as it is"; the recorded mark is "the replica's mark after it (copy: b's)"

abbrev pub after_copy : State → ℕ → ℕ → ℕ → State
after_copy σ s a b =
    let x = σ.place a (suc (σ.mark b)) in
    let written = with_replicas σ σ.promise (append_mark σ.mark b) (append_place σ.place σ.mark b x) in
    with_servers written σ.phase σ.known (upd² σ.recorded s b (suc (σ.mark b)))

pub record Can-copy (σ : State) (s a b : ℕ) : Type 0 where
  pub phase : σ.phase s ≡ Opening
  pub known_a : σ.known s a ≡ true  -- 7: "A named replica isn't known"
  pub known_b : σ.known s b ≡ true
  pub promise_a : σ.promise a ≡ s  -- 17: "Copy, and a would meet 18, 19 or 20"
  pub promise_b : σ.promise b ≡ s  -- 19: its promise "differs from it (others)"
  pub more : σ.mark b < σ.mark a  -- 16: "copy and b's mark isn't below a's"

-- ---- trim: "(opening, decided): truncates a known replica to the majority mark and answers its mark". D is that mark; the log becomes k long.

abbrev pub after_trim : State → ℕ → ℕ → ℕ → State
after_trim σ s i k =
    let cut = with_replicas σ σ.promise (upd σ.mark i k) σ.place in
    with_servers cut σ.phase σ.known (upd² σ.recorded s i k)

pub record Can-trim (σ : State) (s i D k : ℕ) : Type 0 where
  pub phase : σ.phase s ≡ Opening
  pub decided : Decided σ s D  -- 8: "The mark isn't decided (trim, open)"
  pub known : σ.known s i ≡ true
  pub promise : σ.promise i ≡ s  -- 19
  pub above : D ≤ k
  pub down : k ≤ σ.mark i

-- ---- opens: "the register sets clean entries to this session, unresolved; other unresolved entries get the mark as closing mark; the rest
-- remain. The mark is the session's starting mark, its lock table is filled with it, issued = acknowledged = it, clean replicas are its
-- members". The mark is D. The log is, up to it, "what then stands on a replica whose entry this call sets to the session": on a, any of these.
-- Document 02, No. 10: "If it stands at the decided mark at open it counts as clean and the entry is ordinary; otherwise it stays restored."

abbrev pub after_open : State → ℕ → ℕ → ℕ → State
after_open σ s D a =
    let restored : ℕ → Bool = λ i. not (clean σ s D i) && σ.restored i in
    let registered = with_register σ σ.session s (clean σ s D) (λ i. cond (σ.unresolved i) D (σ.closing i)) restored in
    let served = with_servers registered (upd σ.phase s Open) σ.known σ.recorded in
    let started = with_opened served (upd σ.opened s true) (upd σ.member s (clean σ s D)) (upd σ.start s D) (upd σ.acknowledged s D) in
    with_logs started (upd σ.issued s D) (upd σ.log s (σ.place a)) (upd σ.estimate s (λ l. D))

pub record Can-open (σ : State) (s D a : ℕ) : Type 0 where
  pub phase : σ.phase s ≡ Opening
  pub session : σ.session ≡ s  -- 22: "The register's session isn't the server's (open)"
  pub decided : Decided σ s D  -- 8
  pub quorum : σ.Q ≤ count (flagged? (clean σ s D)) σ.R  -- 9: "Fewer than Q known replicas are clean (open)"
  pub clean_a : clean σ s D a ≡ true

-- ---- issue: "gives a request the next ID and writes that ID in the three table places of each of its 0 to 4 locks". The estimates become e.

abbrev pub after_issue : State → ℕ → Tx → (ℕ → ℕ) → State
after_issue σ s x e = with_logs σ (append_mark σ.issued s) (append_place σ.log σ.issued s x) (upd σ.estimate s e)

pub record Can-issue (σ : State) (s : ℕ) (x : Tx) (e : ℕ → ℕ) : Type 0 where
  pub phase : σ.phase s ≡ Open
  pub free : (l : ℕ) → Memᴰ l x.locks → σ.estimate s l ≤ x.client_mark  -- 15: "an estimate is above the client's mark"
  -- what the table's writes do to the estimates (crate locks, proofs/NoFalseNegatives): none falls, and the new ID is entered for each lock of x
  pub rises : (l : ℕ) → σ.estimate s l ≤ e l
  pub enters : (l : ℕ) → Memᴰ l x.locks → suc (σ.issued s) ≤ e l

-- ---- append, the first of send: document 02, No. 5, "send delivers the one that follows the replica's mark"

abbrev pub after_append : State → ℕ → Tx → State
after_append σ i x = with_replicas σ σ.promise (append_mark σ.mark i) (append_place σ.place σ.mark i x)

pub record Can-append (σ : State) (s i : ℕ) (x : Tx) : Type 0 where
  pub phase : σ.phase s ≡ Open
  pub member : σ.member s i ≡ true  -- 7: "is no member"
  pub promise : σ.promise i ≡ s  -- 19: "differs from it"
  pub issued : σ.mark i < σ.issued s
  -- "A send that makes a place valid puts there the transaction of its session's issue that answered this place's number"
  pub next : x ≡ σ.log s (suc (σ.mark i))

-- ---- hear, where a send or a copy by an open server is answered: "Each answered replica call sets the recorded mark to the replica's mark after it"

abbrev pub after_hear : State → ℕ → ℕ → State
after_hear σ s i = with_servers σ σ.phase σ.known (upd² σ.recorded s i (σ.mark i))

pub record Can-hear (σ : State) (s i : ℕ) : Type 0 where
  pub phase : σ.phase s ≡ Open
  pub member : σ.member s i ≡ true
  pub promise : σ.promise i ≡ s
  pub up : σ.recorded s i ≤ σ.mark i

-- ---- acknowledge: "After send or copy by an open server, the acknowledged mark is the highest that Q members' marks reach, dropped members included"

abbrev pub after_acknowledge : State → ℕ → ℕ → State
after_acknowledge σ s m = with_opened σ σ.opened σ.member σ.start (upd σ.acknowledged s m)

pub record Can-acknowledge (σ : State) (s m : ℕ) : Type 0 where
  pub phase : σ.phase s ≡ Open
  pub reached : Reached σ s m
  pub highest : (n : ℕ) → Reached σ s n → n ≤ m

-- ---- stop: "makes a server idle", also where the register is silent

abbrev pub after_stop : State → ℕ → State
after_stop σ s = with_servers σ (upd σ.phase s Idle) σ.known σ.recorded

-- ---- note: "writes a slot with the promise kept, the starting mark as low-water and i's mark as local low-water". The local one is not read.

abbrev pub after_note : State → ℕ → ℕ → State
after_note σ s i = with_low σ (upd σ.low i (σ.start s))

pub record Can-note (σ : State) (s i : ℕ) : Type 0 where
  pub phase : σ.phase s ≡ Open
  pub member : σ.member s i ≡ true  -- 7
  pub promise : σ.promise i ≡ s  -- 19

-- ---- restore: document 02, No. 10: "writes them over it, raises the register's session, marks the entry restored (its session kept) and writes that
-- session as promise in both slots, with the current slot's low-water marks, as one step without fate". c is what the bytes hold. No server gets the
-- raised session.

abbrev pub after_restore : State → ℕ → Content → State
after_restore σ i c =
    let t = suc σ.session in
    let registered = with_register σ t σ.newest σ.unresolved σ.closing (upd σ.restored i true) in
    let written = with_replicas registered (upd σ.promise i t) (upd σ.mark i c.mark) (upd σ.place i c.place) in
    with_low written (upd σ.low i c.low)

-- What the guarantee rests on of the bytes: up to their low-water mark they are in the log of a session, of a number up to p, that started there or above.
-- So are "bytes that the same replica held between two earlier calls" (proofs/Backups.antt `earlier`); that it is the same replica is not used.
pub record Saved (opened : ℕ → Bool) (start : ℕ → ℕ) (log : ℕ → ℕ → Tx) (p : ℕ) (c : Content) : Type 0 where
  pub session : ℕ
  pub below : session ≤ p
  pub «open» : opened session ≡ true
  pub within : c.low ≤ start session
  pub agrees : (n : ℕ) → n ≤ c.mark → n ≤ c.low → c.place n ≡ log session n

abbrev pub Can-restore : State → Content → Type 0
Can-restore σ = Saved σ.opened σ.start σ.log σ.session

-- ---- an event, and a list of events

pub data Step : State → State → Type 0 where
  take : (σ : State) → Step σ (after_take σ)
  promise : (σ : State) (s i : ℕ) → Can-promise σ s i → Step σ (after_promise σ s i)
  cut : (σ : State) (s i k : ℕ) → Can-cut σ s i k → Step σ (after_cut σ i k)
  learn : (σ : State) (s i : ℕ) → Can-learn σ s i → Step σ (after_learn σ s i)
  forget : (σ : State) (s i : ℕ) → Step σ (after_forget σ s i)
  copy : (σ : State) (s a b : ℕ) → Can-copy σ s a b → Step σ (after_copy σ s a b)
  trim : (σ : State) (s i D k : ℕ) → Can-trim σ s i D k → Step σ (after_trim σ s i k)
  opens : (σ : State) (s D a : ℕ) → Can-open σ s D a → Step σ (after_open σ s D a)
  issue : (σ : State) (s : ℕ) (x : Tx) (e : ℕ → ℕ) → Can-issue σ s x e → Step σ (after_issue σ s x e)
  append : (σ : State) (s i : ℕ) (x : Tx) → Can-append σ s i x → Step σ (after_append σ i x)
  hear : (σ : State) (s i : ℕ) → Can-hear σ s i → Step σ (after_hear σ s i)
  acknowledge : (σ : State) (s m : ℕ) → Can-acknowledge σ s m → Step σ (after_acknowledge σ s m)
  stop : (σ : State) (s : ℕ) → Step σ (after_stop σ s)
  note : (σ : State) (s i : ℕ) → Can-note σ s i → Step σ (after_note σ s i)
  restore : (σ : State) (i : ℕ) (c : Content) → Can-restore σ c → Step σ (after_restore σ i c)

infixl 20 ◌▸◌
pub data Steps (σ : State) : State → Type 0 where
  none : Steps σ σ
  ◌▸◌ : {τ υ : State} → Steps σ τ → Step τ υ → Steps σ υ

infixl 20 ◌▸▸◌
-- one list, and then another
pub ◌▸▸◌ : {σ τ υ : State} → Steps σ τ → Steps τ υ → Steps σ υ
r ▸▸ Steps.none = r
r ▸▸ (t ▸ e) = (r ▸▸ t) ▸ e
