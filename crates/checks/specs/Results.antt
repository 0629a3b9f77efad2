-- What a running call gets and gives, in the definitions of the calls.
-- Assumes nothing.
use Rattle.std.specs.Prelude.{ℕ, List, [], replicate}
use Rattle.cluster.specs.declared.Records.{Records}
use Rattle.cluster.specs.declared.Server.{Server}
use Rattle.cluster.specs.declared.Refusal.{Refusal}
use Rattle.cluster.specs.declared.Answer.TheVariants.{Done, Value, Silent, Declined}
use Rattle.cluster.specs.declared.Outcome.{Outcome}
use Rattle.cluster.specs.declared.Call.{Call}
use Rattle.cluster.specs.declared.Call.TheVariants as call
use Rattle.cluster.specs.State.{State, put_server}
use Rattle.cluster.specs.Replies.{reply_of}
use Rattle.segment.specs.declared.header.Stamp.{Stamp}
use Rattle.segment.specs.Header.{key_size}
use Rattle.segment.specs.Pair.{Files}
use Rattle.cluster.specs.Refusals.{Input}
use Rattle.cluster.specs.Effects.{Result, no_bytes}
use Rattle.checks.specs.declared.Change.{Change}

-- register and server records by value, media and lock tables lent
abbrev pub state_of : Records → List ℕ → List ℕ → State
state_of r media tables = record { records = r; media = media; tables = tables }

-- the two files that are lent to an export, and none
abbrev pub files_of : List ℕ → List ℕ → Files
files_of data_file index_file = record { data_file = data_file; index_file = index_file }

abbrev pub no_files : Files
no_files = files_of [] []

-- a time and a key that no call reads
abbrev pub no_stamp : Stamp
no_stamp = record { time = 0; key = replicate key_size 0 }

-- a call that has neither data nor locks nor anything of an export or a restore beside it
abbrev pub input_of : Call → List ℕ → Input
input_of c given = record { call = c; content = []; locks = []; given = given; stamp = no_stamp; files = no_files; backup = [] }

-- a call with all that may lie beside one; an export, without data, locks and backup; and a restore, with its backup alone
abbrev pub beside_of : Call → (content locks given : List ℕ) → Stamp → (data_file index_file backup : List ℕ) → Input
beside_of c content locks given stamp data_file index_file backup =
    record { call = c; content = content; locks = locks; given = given; stamp = stamp; files = files_of data_file index_file; backup = backup }

abbrev pub export_of : Call → (given : List ℕ) → Stamp → (data_file index_file : List ℕ) → Input
export_of c given stamp data_file index_file = beside_of c [] [] given stamp data_file index_file []

abbrev pub restore_of : ℕ → List ℕ → Input
restore_of i backup = beside_of (call.Restore i) [] [] [] no_stamp [] [] backup

-- an outcome and the lent slices at exit
abbrev pub result_of : Outcome → List ℕ → List ℕ → Result
result_of o media tables = record { state = state_of o.records media tables; reply = reply_of o.answer; bytes = o.bytes }

abbrev pub declined_of : Records → Refusal → Outcome
declined_of r why = record { records = r; answer = Declined why; bytes = no_bytes }

abbrev pub silent_of : Records → Outcome
silent_of r = record { records = r; answer = Silent; bytes = no_bytes }

abbrev pub value_of : Records → ℕ → Outcome
value_of r v = record { records = r; answer = Value v; bytes = no_bytes }

abbrev pub done_of : Records → Outcome
done_of r = record { records = r; answer = Done; bytes = no_bytes }

-- a call that has changed one server
abbrev pub changed : Records → ℕ → Change → Outcome
changed r s c = record { records = put_server r s c.server; answer = c.answer; bytes = no_bytes }

abbrev pub unchanged : Server → Refusal → Change
unchanged v why = record { server = v; answer = Declined why }
