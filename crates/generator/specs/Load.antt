-- REPEATABLE LOAD. Document 02, No. 11: "Field staff want the same load on every site." A seed gives states, a state a draw, and draws a call.
-- Assumes nothing.
use Rattle.std.specs.Prelude.{ℕ, zero, suc, ◌+◌, ◌*◌, ◌/◌, ◌%◌, ◌^◌, cond, List, [], ◌∷◌, ◌==◌, slice_index_or, None, option_to_list}
use Rattle.fate.specs.declared.Fate.{Fate}
use Rattle.fate.specs.declared.Fate.TheVariants.{Answered, Lost, AnswerLost}
use Rattle.cluster.specs.declared.Call.{Call}
use Rattle.cluster.specs.declared.Call.TheVariants as call
use Rattle.lines.specs.Forms.{Meaning, asked, request_of}
use Rattle.generator.specs.declared.Drawn.{Drawn}

-- ---- draws

-- "From a 64-bit seed the state goes to state × 6364136223846793005 + 1442695040888963407 mod 2^64"
unfoldable pub next : ℕ → ℕ
next s = (s * 6364136223846793005 + 1442695040888963407) % 2 ^ 64

-- the k-th state behind s
unfoldable pub after : ℕ → ℕ → ℕ
after zero s = s
after (suc k) s = next (after k s)

-- "the top 32 bits of each new state are the draw"
unfoldable pub draw : ℕ → ℕ
draw s = s / 2 ^ 32

-- the k-th draw behind a state, from 1 on, modulo m: the state itself is not drawn from
abbrev pub drawn : ℕ → ℕ → ℕ → ℕ
drawn s k m = draw (after k s) % m

-- ---- calls

-- what is drawn: a call with its data and locks, and the state of the last draw
pub record Made : Type 0 where
  pub meaning : Meaning
  pub state : ℕ

-- a call whose line has k fields that are drawn, behind state s
abbrev pub made : ℕ → ℕ → Call → List ℕ → Made
made s k c content = record { meaning = asked c content []; state = after k s }

-- "each field is a further draw in the script's field order": field k is the k-th draw behind the call's own. "server mod 4"
abbrev pub server_at : ℕ → ℕ → ℕ
server_at s k = drawn s k 4

-- "replica mod R"
abbrev pub replica_at : ℕ → ℕ → ℕ → ℕ
replica_at r s k = drawn s k r

-- "fate mod 3", by the script's numbers: "0 answered, 1 lost, 2 answer lost"
unfoldable pub fate_of : ℕ → Fate
fate_of d = cond (d == 0) Answered (cond (d == 1) Lost AnswerLost)

abbrev pub fate_at : ℕ → ℕ → Fate
fate_at s k = fate_of (drawn s k 3)

-- "client mark mod (N + 1)"
abbrev pub client_mark_at : ℕ → ℕ → ℕ → ℕ
client_mark_at n s k = drawn s k (n + 1)

-- "header 1 + draw mod 100"
abbrev pub header_at : ℕ → ℕ → ℕ
header_at s k = 1 + drawn s k 100

-- "one data byte mod 256"
abbrev pub byte_at : ℕ → ℕ → ℕ
byte_at s k = drawn s k 256

-- the eight, each with the script's fields
abbrev pub take_call : ℕ → Made
take_call s = made s 2 (call.Take (server_at s 1) (fate_at s 2)) []

abbrev pub prepare_call : ℕ → ℕ → Made
prepare_call r s = made s 3 (call.Prepare (server_at s 1) (replica_at r s 2) (fate_at s 3)) []

abbrev pub copy_call : ℕ → ℕ → Made
copy_call r s = made s 4 (call.Copy (server_at s 1) (replica_at r s 2) (replica_at r s 3) (fate_at s 4)) []

abbrev pub trim_call : ℕ → ℕ → Made
trim_call r s = made s 3 (call.Trim (server_at s 1) (replica_at r s 2) (fate_at s 3)) []

abbrev pub open_call : ℕ → Made
open_call s = made s 2 (call.Open (server_at s 1) (fate_at s 2)) []

-- "Generation is 0, without a draw, and there are no locks"
abbrev pub issue_call : ℕ → ℕ → Made
issue_call n s = made s 4 (call.Issue (server_at s 1) (request_of (client_mark_at n s 2) 0 (header_at s 3))) (byte_at s 4 ∷ [])

abbrev pub send_call : ℕ → ℕ → Made
send_call r s = made s 3 (call.Send (server_at s 1) (replica_at r s 2) (fate_at s 3)) []

abbrev pub stop_call : ℕ → Made
stop_call s = made s 1 (call.Stop (server_at s 1)) []

-- "in the order take, prepare, copy, trim, open, issue, send, stop"
abbrev pub eight : ℕ → ℕ → ℕ → List Made
eight r n s = take_call s ∷ prepare_call r s ∷ copy_call r s ∷ trim_call r s ∷ open_call s ∷ issue_call n s ∷ send_call r s ∷ stop_call s ∷ []

-- "A call is draw mod 8", which is below 8; its fields are drawn behind that draw
unfoldable pub call_of : ℕ → ℕ → ℕ → Made
call_of r n s = slice_index_or (eight r n (next s)) (drawn s 1 8) (stop_call s)

-- the calls of a list, one behind the other
unfoldable pub calls_of : ℕ → ℕ → ℕ → ℕ → List Meaning
calls_of r n zero s = []
calls_of r n (suc k) s = (call_of r n s).meaning ∷ calls_of r n k (call_of r n s).state

-- ---- as the code gives it: the call, its data's byte, the state

abbrev pub made_of : Drawn → Made
made_of d = record { meaning = asked d.call (option_to_list d.byte) []; state = d.state }

-- a call without data
abbrev pub bare_of : Call → ℕ → Drawn
bare_of c s = record { call = c; byte = None; state = s }
