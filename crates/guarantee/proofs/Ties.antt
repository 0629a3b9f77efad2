-- What ties the state of a cluster, and the history of its calls, to a state of the protocol. One record for each kind of thing, over the values that it
-- ties: a call that leaves those values alone leaves the tie as it is.
-- An idle server is tied to nothing. So a server that stops, or that a silent register leaves idle, needs no event of the protocol.
-- Assumes nothing.
use mathlib.Core.Path.{◌≡◌}
use mathlib.Core.Bool.{Bool, true, false}
use mathlib.Core.List.{List}
use mathlib.Core.Option.{Option, none, some}
use Prim.Native.Nat.{ℕ, ◌*◌, ◌^◌, ◌≤◌, ◌<◌}
use lib.ListN.{length, get_or}
use Rattle.cluster.specs.declared.Closing.{Closing}
use Rattle.cluster.specs.declared.Closing.TheVariants.{Unresolved, Mark, Restored}
use Rattle.storage.specs.Sizes.{medium_size}
use Rattle.storage.specs.Places.{valid_place}
use Rattle.storage.specs.Slots.{stored_slot, HasSlot, FittingSlot}
use Rattle.storage.specs.Log.{place_at, mark_of, Sound}
use Rattle.storage.specs.Operations.{medium_at}
use Rattle.quorum.specs.Vote.{quorum}
use Rattle.locks.specs.Locks.{estimate_of}
use Rattle.protocol.specs.State as protocol
use Rattle.protocol.specs.State.{Tx}
use Rattle.protocol.specs.Events.{Can-restore, Steps}
use Rattle.cluster.specs.declared.Shape.{Shape}
use Rattle.cluster.specs.declared.Register.{Register}
use Rattle.cluster.specs.declared.Phase.TheVariants.{Idle, Opening, Open}
use Rattle.cluster.specs.declared.Server.{Server}
use Rattle.cluster.specs.State.{State, no_server, entry_at, is_restored, restored_at, mark_at, member_at, active_at, held_size, holds, record_of, table_size, table_at}
use Rattle.guarantee.specs.History.{Transaction, Logged, Session, log, Earlier, History, unopened}

-- ================ what the protocol's state has of one replica, one session's server, one session's history

pub record Copy : Type 0 where
  pub promise : ℕ
  pub mark : ℕ
  pub place : ℕ → Tx
  pub low : ℕ

pub record Row : Type 0 where
  pub phase : protocol.Phase
  pub handed_unresolved : ℕ → Bool
  pub handed_closing : ℕ → ℕ
  pub handed_restored : ℕ → Bool
  pub known : ℕ → Bool
  pub recorded : ℕ → ℕ
  pub member : ℕ → Bool
  pub start : ℕ
  pub issued : ℕ
  pub log : ℕ → Tx
  pub estimate : ℕ → ℕ

pub record Story : Type 0 where
  pub opened : Bool
  pub start : ℕ
  pub issued : ℕ
  pub log : ℕ → Tx
  pub acknowledged : ℕ

module _ (σ : protocol.State) where
  abbrev pub copy_of : ℕ → Copy
  copy_of i = record { promise = σ.promise i; mark = σ.mark i; place = σ.place i; low = σ.low i }

  abbrev pub row_of : ℕ → Row
  row_of s =
      record {
        phase = σ.phase s;
        handed_unresolved = σ.handed_unresolved s;
        handed_closing = σ.handed_closing s;
        handed_restored = σ.handed_restored s;
        known = σ.known s;
        recorded = σ.recorded s;
        member = σ.member s;
        start = σ.start s;
        issued = σ.issued s;
        log = σ.log s;
        estimate = σ.estimate s;
      }

  abbrev pub story_of : ℕ → Story
  story_of s =
      record { opened = σ.opened s; start = σ.start s; issued = σ.issued s; log = σ.log s; acknowledged = σ.acknowledged s }

-- ================ replicas

-- the protocol's transaction, as the history has it
abbrev pub transaction_of : Tx → Transaction
transaction_of x = record { call = x.issue; locks = x.locks; mark = x.client_mark }

abbrev pub logged_of : Tx → Logged
logged_of x = record { bytes = x.bytes; transaction = transaction_of x }

-- the places up to the mark hold the protocol's transactions; none above it is valid (Sound), or an append would bring it back
pub record ReplicaTie (N : ℕ) (m : List ℕ) (standing : ℕ → Option Transaction) (c : Copy) : Type 0 where
  pub sound : Sound N m
  pub valid : HasSlot m
  pub fitting : FittingSlot (stored_slot m)
  pub promise : (stored_slot m).promise ≡ c.promise
  pub mark : mark_of N m ≡ c.mark
  pub low : (stored_slot m).low ≡ c.low
  pub bytes : (n : ℕ) → 1 ≤ n → n ≤ c.mark → place_at n m ≡ (c.place n).bytes
  pub whose : (n : ℕ) → 1 ≤ n → n ≤ c.mark → standing n ≡ some (transaction_of (c.place n))

pub record ReplicasTie (R N : ℕ) (media : List ℕ) (standing : ℕ → ℕ → Option Transaction) (copies : ℕ → Copy) : Type 0 where
  pub size : length media ≡ R * medium_size N
  pub each : (i : ℕ) → i < R → ReplicaTie N (medium_at N i media) (standing i) (copies i)

-- ================ servers

abbrev pub is_unresolved : Closing → Bool
is_unresolved Unresolved = true
is_unresolved (Mark c) = false
is_unresolved Restored = false

-- an opening server and the row of its session
pub record OpeningTie (R : ℕ) (v : Server) (ρ : Row) : Type 0 where
  pub phase : ρ.phase ≡ protocol.Opening
  pub restored : (i : ℕ) → i < R → restored_at v i ≡ ρ.handed_restored i
  pub unresolved : (i : ℕ) → i < R → ρ.handed_restored i ≡ false → is_unresolved (entry_at v.entries i).closing ≡ ρ.handed_unresolved i
  pub closing : (i c : ℕ) → i < R → (entry_at v.entries i).closing ≡ Mark c → ρ.handed_closing i ≡ c
  pub known : (i : ℕ) → i < R → active_at v i ≡ ρ.known i
  pub recorded : (i : ℕ) → i < R → ρ.known i ≡ true → mark_at v i ≡ ρ.recorded i

-- an open server with its lock table
pub record OpenTie (R : ℕ) (v : Server) (table : List ℕ) (ρ : Row) : Type 0 where
  pub phase : ρ.phase ≡ protocol.Open
  pub member : (i : ℕ) → i < R → member_at v i ≡ ρ.member i
  pub recorded : (i : ℕ) → i < R → ρ.member i ≡ true → mark_at v i ≡ ρ.recorded i
  pub start : v.start ≡ ρ.start
  pub issued : v.issued ≡ ρ.issued
  -- each record that is held is the one issued under its ID
  pub held : (n : ℕ) → holds v n ≡ true → record_of v n ≡ (ρ.log n).bytes
  pub written : (n : ℕ) → holds v n ≡ true → valid_place n (record_of v n) ≡ true
  -- no entry of the table is above the last ID issued, so the next one lowers none
  pub estimate : (k : ℕ) → estimate_of table k ≡ ρ.estimate k
  pub entered : (k : ℕ) → ρ.estimate k ≤ ρ.issued

abbrev pub Live : Server → Type 0
Live v = v.phase ≡ Idle → ⊥

-- its arrays have seven elements, and what is held has the bytes of eight places
pub record Sized (v : Server) : Type 0 where
  pub known : length v.known ≡ 7
  pub dropped : length v.dropped ≡ 7
  pub marks : length v.marks ≡ 7
  pub held : length v.held ≡ held_size

pub record ServerTie (R : ℕ) (v : Server) (table : List ℕ) (session' : ℕ) (rows : ℕ → Row) : Type 0 where
  pub sized : Sized v
  pub current : Live v → session' ≡ v.session
  pub opening : v.phase ≡ Opening → OpeningTie R v (rows v.session)
  pub serving : v.phase ≡ Open → OpenTie R v table (rows v.session)

pub record ServersTie (R : ℕ) (servers : List Server) (tables : List ℕ) (current : ℕ → ℕ) (rows : ℕ → Row) : Type 0 where
  pub size : length servers ≡ 4
  pub tables_size : length tables ≡ 4 * table_size
  pub each : (s : ℕ) → s < 4 → ServerTie R (get_or servers s no_server) (table_at s tables) (current s) rows
  -- no two servers hold one session
  pub apart : (s t : ℕ) → s < 4 → t < 4 → Live (get_or servers s no_server) → Live (get_or servers t no_server)
      → (get_or servers s no_server).session ≡ (get_or servers t no_server).session → s ≡ t

-- ================ the register

pub record RegisterTie (R : ℕ) (g : Register) (session' : ℕ) (unresolved' : ℕ → Bool) (closing' : ℕ → ℕ) (restored' : ℕ → Bool) (opened : ℕ → Bool) : Type 0 where
  pub session : g.session ≡ session'
  pub fits : g.session < 2 ^ 64
  pub size : length g.entries ≡ 7
  pub restored : (i : ℕ) → i < R → is_restored (entry_at g.entries i).closing ≡ restored' i
  pub unresolved : (i : ℕ) → i < R → restored' i ≡ false → is_unresolved (entry_at g.entries i).closing ≡ unresolved' i
  pub closing : (i c : ℕ) → i < R → (entry_at g.entries i).closing ≡ Mark c → closing' i ≡ c
  -- only an open sets an entry to its session: an open changes the entry of each replica that it finds clean
  pub entry : (i : ℕ) → i < R → opened (entry_at g.entries i).session ≡ true

-- ================ sessions

-- an opened session of the protocol, as the history has it
pub record Told (z : Session) (y : Story) : Type 0 where
  pub start : z.start ≡ y.start
  pub logged : (n : ℕ) → 1 ≤ n → n ≤ y.issued → log z n ≡ some (logged_of (y.log n))
  pub beyond : (n : ℕ) → y.issued < n → z.issues n ≡ none
  pub acknowledged : z.acknowledged ≤ y.acknowledged

-- the protocol counts session 0 as opened, the history does not
pub record SessionTie (z : Session) (y : Story) : Type 0 where
  pub opened : y.opened ≡ true → Told z y
  pub before : y.opened ≡ false → z ≡ unopened

abbrev pub SessionsTie : (ℕ → Session) → (ℕ → Story) → Type 0
SessionsTie sessions stories = (s : ℕ) → SessionTie (sessions s) (stories s)

-- ================ all of it

pub record Sim (h : Shape) (x : State) (H : History) (σ : protocol.State) : Type 0 where
  pub R : σ.R ≡ h.replicas
  pub Q : σ.Q ≡ quorum h.replicas
  pub register : RegisterTie h.replicas x.records.register σ.session σ.unresolved σ.closing σ.restored σ.opened
  pub replicas : ReplicasTie h.replicas h.places x.media H.standing (copy_of σ)
  pub servers : ServersTie h.replicas x.records.servers x.tables H.current (row_of σ)
  pub sessions : SessionsTie H.sessions (story_of σ)

-- ================ what stood on the replicas earlier

abbrev pub content_of : Copy → protocol.Content
content_of c = record { mark = c.mark; place = c.place; low = c.low }

-- a medium, with the transactions put on it, that may be restored in σ
pub record Backed (N : ℕ) (m : List ℕ) (standing : ℕ → Option Transaction) (σ : protocol.State) : Type 0 where
  pub copy : Copy
  pub tie : ReplicaTie N m standing copy
  pub can : Can-restore σ (content_of copy)

-- what each replica held at each moment may be
abbrev pub Past : Shape → (ℕ → Earlier) → protocol.State → Type 0
Past h past σ = (k i : ℕ) → i < h.replicas → Backed h.places (medium_at h.places i (past k).media) ((past k).standing i) σ

-- what is to be shown of a call that leaves state y and history K: it is a list of events
abbrev pub Goes : Shape → protocol.State → State → History → Type 0
Goes h σ y K = (τ : protocol.State) × Steps σ τ × Sim h y K τ
