-- The invariant, in small clauses: each in words, and what it is needed for.
-- A group of clauses is a record over the columns that it reads. So an event that leaves those columns alone leaves the group as it is, and the
-- proof of that is the group itself.
-- Assumes nothing.
use mathlib.Core.Path.{◌≡◌}
use mathlib.Core.Logic.Dec
use mathlib.Core.Logic.{◌⊎◌, inl, inr}
use mathlib.Core.Bool.{Bool, true, false}
use mathlib.Core.List.{Memᴰ}
use Prim.Native.Nat.{ℕ, ◌≤◌, ◌<◌}
use native.Mathlib.Decide.{ℕ_discrete, dec_le}
use Rattle.protocol.specs.Columns.{count}
use Rattle.protocol.specs.State.{Tx, Clash, Phase, Opening, Open, State, content}
use Rattle.protocol.specs.Marks.{flagged?, reaches?}
use Rattle.protocol.specs.Events.{Saved}

-- ---- the words of the clauses

-- Member j of s counts for mark m, or may come to: it recorded m, or still promises s. (A recorded mark of s rises only while that lasts.)
abbrev pub Could : (member : ℕ → Bool) (recorded promise : ℕ → ℕ) (s m j : ℕ) → Type 0
Could member recorded promise s m j = (member j ≡ true) × ((m ≤ recorded j) ⊎ (promise j ≡ s))

abbrev either? : {A B : Type 0} → Dec A → Dec B → Dec (A ⊎ B)
either? (yes a) d = yes (inl a)
either? (no a) (yes b) = yes (inr b)
either? (no a) (no b) = no (elim [ inl p ↦ a p | inr p ↦ b p ])

abbrev pub could? : (member : ℕ → Bool) (recorded promise : ℕ → ℕ) (s m j : ℕ) → Dec (Could member recorded promise s m j)
could? member recorded promise s m j = Dec.and (flagged? member j) (either? (dec_le m (recorded j)) (ℕ_discrete (promise j) s))

-- Fewer than Q members can count for m: s does not acknowledge m, now or ever. This is the notion on which the proof turns: it never
-- becomes false again, since promises never fall.
abbrev pub Unackable : (R Q : ℕ) (member : ℕ → ℕ → Bool) (recorded : ℕ → ℕ → ℕ) (promise : ℕ → ℕ) → ℕ → ℕ → Type 0
Unackable R Q member recorded promise s m = count (could? (member s) (recorded s) promise s m) R < Q

abbrev pub Never : State → ℕ → ℕ → Type 0
Never σ = Unackable σ.R σ.Q σ.member σ.recorded σ.promise

-- Q members of s recorded m
abbrev pub Recorded : (R Q : ℕ) (member : ℕ → ℕ → Bool) (recorded : ℕ → ℕ → ℕ) → ℕ → ℕ → Type 0
Recorded R Q member recorded s m = Q ≤ count (reaches? (member s) (recorded s) m) R

-- no opened session lies above b and up to p
abbrev pub NewestUpTo : (opened : ℕ → Bool) (p b : ℕ) → Type 0
NewestUpTo opened p b = (u : ℕ) → opened u ≡ true → u ≤ p → u ≤ b

-- ID n is in the log of session s, and place n of replica j holds it
abbrev pub Holds : (place log : ℕ → ℕ → Tx) (issued : ℕ → ℕ) (j s n : ℕ) → Type 0
Holds place log issued j s n = (n ≤ issued s) × (place j n ≡ log s n)

-- ---- the groups

-- how session numbers and promises lie
pub record Numbers (session newest : ℕ) (unresolved restored : ℕ → Bool) (promise : ℕ → ℕ)
    (phase : ℕ → Phase) (opened : ℕ → Bool) (member : ℕ → ℕ → Bool) : Type 0 where
  -- Only sessions that were taken are promised. So a replica that the register's session knows promises just that one.
  pub promise≤ : (i : ℕ) → promise i ≤ session
  -- The newest opened session was taken: the next take is newer.
  pub newest≤ : newest ≤ session
  -- It is opened: what is said of opened sessions holds of it.
  pub newest_opened : opened newest ≡ true
  -- It is the newest: a session that opens now joins the chain at its end.
  pub none_newer : (s : ℕ) → opened s ≡ true → s ≤ newest
  -- The session of an open server is opened: what is said of opened sessions holds of those that issue and send.
  pub live : (s : ℕ) → phase s ≡ Open → opened s ≡ true
  -- A member promises its session or a newer one: an older session no longer writes on it.
  pub joined : (s j : ℕ) → opened s ≡ true → member s j ≡ true → s ≤ promise j
  -- A restored one promises a newer one: its session, though open, neither writes on it nor hears of it again.
  pub parted : (s j : ℕ) → opened s ≡ true → member s j ≡ true → restored j ≡ true → s < promise j
  -- The unresolved entries are the newest session's members: an open closes just those of them that it leaves out.
  pub entries : (i : ℕ) → unresolved i ≡ member newest i

-- an opening session s, its base b, and the entries that its take handed over
pub record Taken (session newest : ℕ) (closing : ℕ → ℕ) (restored : ℕ → Bool) (promise : ℕ → ℕ) (opened : ℕ → Bool)
    (member : ℕ → ℕ → Bool) (s b : ℕ) (unresolved : ℕ → Bool) (handed : ℕ → ℕ) (handed_restored : ℕ → Bool) : Type 0 where
  -- It was taken: a session that is taken or opened later has a greater number.
  pub taken : s ≤ session
  -- Its base is opened: it has a log, of which the known replicas hold a part.
  pub base_opened : opened b ≡ true
  -- The base is older, and so s itself is not opened.
  pub below : b < s
  -- No opened session lies between. So the base does not move, and while none newer is opened, it is the newest.
  pub top : NewestUpTo opened s b
  -- The unresolved entries are the base's members: these were not truncated, and hold a part of its log.
  pub entries : (i : ℕ) → unresolved i ≡ member b i
  -- A closing mark still stands while the replica's promise is not above s. So prepare may truncate by an entry handed over long ago.
  pub shut : (i : ℕ) → member b i ≡ false → promise i ≤ s → (member newest i ≡ false) × (closing i ≡ handed i)
  -- So does it that the entry is restored, or is not: a restore since then raised the promise above s, and so did what made it clean again.
  pub marked : (i : ℕ) → promise i ≤ s → restored i ≡ handed_restored i

abbrev pub TakenIn : State → ℕ → Type 0
TakenIn σ s = Taken σ.session σ.newest σ.closing σ.restored σ.promise σ.opened σ.member s (σ.base s) (σ.handed_unresolved s)
    (σ.handed_closing s) (σ.handed_restored s)

-- which replicas a server knows
pub record Known (session : ℕ) (promise : ℕ → ℕ) (phase : ℕ → Phase) (known : ℕ → ℕ → Bool) : Type 0 where
  -- A session not taken yet knows none: a take needs to clear nothing.
  pub nobody : (s j : ℕ) → session < s → known s j ≡ false
  -- A known replica promised the session, so it no longer records for an older one: what was heard of it is final for the vote.
  pub promised : (s j : ℕ) → phase s ≡ Opening → known s j ≡ true → s ≤ promise j

-- the logs of the opened sessions
pub record Chain (opened : ℕ → Bool) (start issued : ℕ → ℕ) (log : ℕ → ℕ → Tx) : Type 0 where
  -- Starting marks never fall: what is out of reach above the newest one is so for every older session.
  pub rising : (s u : ℕ) → opened s ≡ true → opened u ≡ true → s < u → start s ≤ start u
  -- Two logs agree on each ID within the starting marks of all sessions after the earlier: conclusion (2), once (1) bounds what is acknowledged.
  pub agree : (s u n : ℕ) → opened s ≡ true → opened u ≡ true → s < u
      → ((w : ℕ) → opened w ≡ true → s < w → n ≤ start w) → (n ≤ issued s) × (log s n ≡ log u n)
  -- A log reaches to its starting mark: up to there every ID is in it.
  pub filled : (s : ℕ) → opened s ≡ true → start s ≤ issued s

-- what an opened session acknowledged, and what it never will
pub record Acks (R Q : ℕ) (promise : ℕ → ℕ) (recorded : ℕ → ℕ → ℕ) (opened : ℕ → Bool)
    (member : ℕ → ℕ → Bool) (start issued acknowledged : ℕ → ℕ) : Type 0 where
  -- Above the starting mark of a later session an earlier one never acknowledges: conclusion (1).
  pub unackable : (s u m : ℕ) → opened s ≡ true → opened u ≡ true → s < u → start u < m → Unackable R Q member recorded promise s m
  -- The starting mark is acknowledged. So no later session starts below it.
  pub ahead : (s : ℕ) → opened s ≡ true → start s ≤ acknowledged s
  -- Q members recorded what is acknowledged. So it is not unackable, and does not fall when it is computed anew.
  pub reached : (s : ℕ) → opened s ≡ true → Recorded R Q member recorded s (acknowledged s)
  -- A member's recorded mark is not below the starting mark. So the record that a send writes is one of this session's own issues.
  pub above : (s j : ℕ) → opened s ≡ true → member s j ≡ true → start s ≤ recorded s j
  -- It is not above what is issued. So what is acknowledged stands in the log.
  pub within : (s j : ℕ) → opened s ≡ true → member s j ≡ true → recorded s j ≤ issued s

-- the logs of the replicas
pub record Logs (newest : ℕ) (closing : ℕ → ℕ) (restored : ℕ → Bool) (promise mark : ℕ → ℕ) (place : ℕ → ℕ → Tx) (opened : ℕ → Bool)
    (member : ℕ → ℕ → Bool) (start issued : ℕ → ℕ) (log : ℕ → ℕ → Tx) : Type 0 where
  -- A member of the newest session up to its promise, if it was not restored since, holds a part of that session's log. That session is the newest
  -- one for an unresolved replica, and the base for one that an opening server has prepared, also where a newer session has since been opened.
  pub prefix : (i b n : ℕ) → restored i ≡ false → opened b ≡ true → member b i ≡ true → NewestUpTo opened (promise i) b → n ≤ mark i
      → Holds place log issued i b n
  -- A resolved replica agrees with the newest log up to its closing mark: truncated to it, it holds nothing else.
  pub closed : (i n : ℕ) → restored i ≡ false → member newest i ≡ false → n ≤ mark i → n ≤ closing i → place i n ≡ log newest n
  -- Its closing mark is not above the newest starting mark: up to it the newest log has every ID.
  pub closes : (i : ℕ) → member newest i ≡ false → closing i ≤ start newest
  -- Nor above that of any session opened since its promise: what it keeps is in the log of the session that prepares it.
  pub later : (i u : ℕ) → member newest i ≡ false → opened u ≡ true → promise i < u → closing i ≤ start u

-- the logs of the replicas that an opening server knows, while they promise its session
pub record Heard (promise mark : ℕ → ℕ) (place : ℕ → ℕ → Tx) (phase : ℕ → Phase) (base : ℕ → ℕ)
    (known : ℕ → ℕ → Bool) (recorded : ℕ → ℕ → ℕ) (issued : ℕ → ℕ) (log : ℕ → ℕ → Tx) : Type 0 where
  -- The recorded mark is the stored one: the vote is about what is there.
  pub exact : (s j : ℕ) → phase s ≡ Opening → known s j ≡ true → promise j ≡ s → recorded s j ≡ mark j
  -- They hold a part of the base's log: copies stay within it, and any clean one gives the starting log.
  pub copied : (s j n : ℕ) → phase s ≡ Opening → known s j ≡ true → promise j ≡ s → n ≤ mark j → Holds place log issued j (base s) n

-- a mark that fell, or was heard too low, is one that the newest session never acknowledges: the heart of the decision lemma
pub record Votes (R Q newest : ℕ) (restored : ℕ → Bool) (promise mark : ℕ → ℕ) (phase : ℕ → Phase)
    (handed_restored known : ℕ → ℕ → Bool) (recorded : ℕ → ℕ → ℕ) (member : ℕ → ℕ → Bool) : Type 0 where
  -- A member that was not restored since holds less than it recorded only where a trim took what is unackable.
  pub fell : (i m : ℕ) → restored i ≡ false → member newest i ≡ true → mark i < m → m ≤ recorded newest i → Unackable R Q member recorded promise newest m
  -- A newer opening server, in whose vote a member counts, heard less of it than that member recorded only where that is unackable.
  pub missed : (s j m : ℕ) → phase s ≡ Opening → newest < s → known s j ≡ true → handed_restored s j ≡ false → member newest j ≡ true
      → recorded s j < m → m ≤ recorded newest j → Unackable R Q member recorded promise newest m

-- locks
pub record Locks (opened : ℕ → Bool) (start issued : ℕ → ℕ) (log : ℕ → ℕ → Tx) (estimate : ℕ → ℕ → ℕ) : Type 0 where
  -- An estimate is at least the starting mark, for the locks of what was issued before, ..
  pub floor : (s l : ℕ) → opened s ≡ true → start s ≤ estimate s l
  -- .. and at least the ID of each own issue with this lock. So refusal 15 keeps a new one from a clash.
  pub entered : (s n l : ℕ) → opened s ≡ true → start s < n → n ≤ issued s → Memᴰ l (log s n).locks → n ≤ estimate s l
  -- Of two in a log that share a lock, the client of the later knew the earlier: conclusion (3).
  pub apart : (s n m : ℕ) → opened s ≡ true → m < n → n ≤ issued s → Clash (log s n) (log s m) → m ≤ (log s n).client_mark

pub record Inv (σ : State) : Type 0 where
  -- A quorum is not empty: what is acknowledged was recorded by somebody.
  pub quorum : 0 < σ.Q
  pub numbers : Numbers σ.session σ.newest σ.unresolved σ.restored σ.promise σ.phase σ.opened σ.member
  pub taken : (s : ℕ) → σ.phase s ≡ Opening → TakenIn σ s
  pub known : Known σ.session σ.promise σ.phase σ.known
  pub chain : Chain σ.opened σ.start σ.issued σ.log
  pub acks : Acks σ.R σ.Q σ.promise σ.recorded σ.opened σ.member σ.start σ.issued σ.acknowledged
  pub logs : Logs σ.newest σ.closing σ.restored σ.promise σ.mark σ.place σ.opened σ.member σ.start σ.issued σ.log
  pub heard : Heard σ.promise σ.mark σ.place σ.phase σ.base σ.known σ.recorded σ.issued σ.log
  -- Up to its low-water mark a replica holds what an opened session started with, and so every later one: truncated to it, a restored replica has nothing
  -- else. This never becomes false of what was held once, so that an earlier content may be brought back.
  pub lows : (i : ℕ) → Saved σ.opened σ.start σ.log (σ.promise i) (content σ i)
  pub votes : Votes σ.R σ.Q σ.newest σ.restored σ.promise σ.mark σ.phase σ.handed_restored σ.known σ.recorded σ.member
  pub locks : Locks σ.opened σ.start σ.issued σ.log σ.estimate
