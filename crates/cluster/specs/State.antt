-- The state of a cluster as the calls get it, and the parts of it that they name. Document 01, "Words", "Fates", "Register"; document 02, No. 5 and 10.
-- Assumes nothing.
use Rattle.std.specs.Prelude.{ℕ, zero, suc, ◌+◌, ◌-◌, ◌*◌, List, [], ◌++◌, Bool, true, false, not, ◌&&◌, get_or, set, replicate, drop, ltb, leb}
use Rattle.octets.specs.Octets.{part, write_at}
use Rattle.storage.specs.Sizes.{place_size}
use Rattle.storage.specs.Fresh.{fresh_medium}
use Rattle.cluster.specs.declared.Shape.{Shape}
use Rattle.cluster.specs.declared.Closing.{Closing}
use Rattle.cluster.specs.declared.Closing.TheVariants.{Unresolved, Mark, Restored}
use Rattle.cluster.specs.declared.Entry.{Entry}
use Rattle.cluster.specs.declared.Register.{Register}
use Rattle.cluster.specs.declared.Phase.TheVariants.{Idle}
use Rattle.cluster.specs.declared.Server.{Server}
use Rattle.cluster.specs.declared.Records.{Records}

-- what a call gets and leaves: register and server records, media, lock tables
pub record State : Type 0 where
  pub records : Records
  pub media : List ℕ
  pub tables : List ℕ

-- ---- the records that a server holds

-- document 02, No. 5: "A server record holds the last eight records that its session issued, in order", in place of document 01's "the issued
-- record, held by the server as 64 bytes"; each of them a place, 72 bytes since No. 7
abbrev pub window : ℕ
window = 8

abbrev pub held_size : ℕ
held_size = window * place_size

-- the one at index j, oldest first
abbrev pub held_at : ℕ → List ℕ → List ℕ
held_at j held = part (j * place_size) place_size held

-- "Held are the IDs above the starting mark and above issued − 8, up to issued."
abbrev pub held_in : ℕ → ℕ → ℕ → Bool
held_in start issued n = ltb start n && leb n issued && ltb issued (n + window)

-- where the record of ID n lies: issued − n before the newest. (Of an ID that is not held no call writes a record; above issued this is the newest's index,
-- too far below it the oldest's.)
abbrev pub index_of : ℕ → ℕ → ℕ
index_of issued n = window - 1 - (issued - n)

-- one more: the oldest gives way, and the newest is always last
abbrev pub held_after : List ℕ → List ℕ → List ℕ
held_after held bytes = drop place_size held ++ bytes

-- ---- servers

-- a fresh entry: "session 0 unresolved"
abbrev pub fresh_entry : Entry
fresh_entry = record { session = 0; closing = Unresolved }

-- "An idle server's record is all zeros"
abbrev pub idle_server : Server
idle_server =
    record {
      phase = Idle;
      session = 0;
      generation = 0;
      entries = replicate 7 fresh_entry;
      known = replicate 7 false;
      dropped = replicate 7 false;
      marks = replicate 7 0;
      start = 0;
      issued = 0;
      acked = 0;
      held = replicate held_size 0;
    }

-- what an array's element past its end stands for in the logic (no call gets there)
abbrev pub no_server : Server
no_server =
    record {
      phase = Idle;
      session = 0;
      generation = 0;
      entries = [];
      known = [];
      dropped = [];
      marks = [];
      start = 0;
      issued = 0;
      acked = 0;
      held = [];
    }

abbrev pub server_at : Records → ℕ → Server
server_at r s = get_or r.servers s no_server

abbrev pub put_server : Records → ℕ → Server → Records
put_server r s v = record { register = r.register; servers = set r.servers s v }

abbrev pub put_register : Records → Register → Records
put_register r g = record { register = g; servers = r.servers }

abbrev pub entry_at : List Entry → ℕ → Entry
entry_at es i = get_or es i fresh_entry

-- replica i's recorded mark
abbrev pub mark_at : Server → ℕ → ℕ
mark_at v i = get_or v.marks i 0

-- replica i is known (opening), or a member (open), dropped or not
abbrev pub member_at : Server → ℕ → Bool
member_at v i = get_or v.known i false

-- replica i may be used: known, or a member, and not dropped
abbrev pub active_at : Server → ℕ → Bool
active_at v i = get_or v.known i false && not (get_or v.dropped i false)

-- document 02, No. 10: "marks the entry restored"
abbrev pub is_restored : Closing → Bool
is_restored Unresolved = false
is_restored (Mark c) = false
is_restored Restored = true

-- replica i was restored when the server's session was taken: the entry is the one handed over at take, as closing marks are, and not the register's of now
abbrev pub restored_at : Server → ℕ → Bool
restored_at v i = is_restored (entry_at v.entries i).closing

-- replica i's mark counts in the vote: document 02, No. 10: "It may receive copies but counts as absent in the vote"
abbrev pub votes_at : Server → ℕ → Bool
votes_at v i = active_at v i && not (restored_at v i)

-- server v holds the record of ID n
abbrev pub holds : Server → ℕ → Bool
holds v n = held_in v.start v.issued n

abbrev pub record_of : Server → ℕ → List ℕ
record_of v n = held_at (index_of v.issued n) v.held

-- ---- lock tables: "Four servers .. each have a lock table of 1,024 64-bit marks, lent together"

abbrev pub table_size : ℕ
table_size = 1024

abbrev pub table_at : ℕ → List ℕ → List ℕ
table_at s tables = part (s * table_size) table_size tables

abbrev pub with_table : ℕ → List ℕ → List ℕ → List ℕ
with_table s t tables = write_at (s * table_size) t tables

-- ---- a fresh cluster: "session and generation 0, all entries session 0 unresolved, all servers idle, lock tables 0,
-- every place wiped, both slots valid with all fields 0"

-- media of r replicas, one after another
unfoldable pub fresh_media : ℕ → ℕ → List ℕ
fresh_media zero N = []
fresh_media (suc r) N = fresh_medium N ++ fresh_media r N

unfoldable pub fresh : Shape → State
fresh h =
    record {
      records = record { register = record { session = 0; generation = 0; entries = replicate 7 fresh_entry }; servers = replicate 4 idle_server };
      media = fresh_media h.replicas h.places;
      tables = replicate (4 * table_size) 0;
    }
