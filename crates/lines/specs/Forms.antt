-- The forms of a line and what a line of each asks for. Document 01, "Script program": "Fields: cluster R N; take server fate;
-- prep server replica fate; copy server a b fate; open server fate; issue server client-mark generation header data-hex and then
-- each lock; send server replica fate."
-- Assumes nothing.
use Rattle.std.specs.Prelude.{◌≡◌, Option, Some, None, List, [], Bool, cond, ◌&&◌, ℕ, ◌-◌, eqb, leb, length}
use Rattle.fate.specs.declared.Fate.{Fate}
use Rattle.cluster.specs.declared.Request.{Request}
use Rattle.cluster.specs.declared.Call.{Call}
use Rattle.cluster.specs.declared.Call.TheVariants as call
use Rattle.text.specs.Text.{after_of, field_of, field_count, number_of, word_of}
use Rattle.lines.specs.declared.forms.Line.{Line}
use Rattle.lines.specs.declared.forms.Line.TheVariants as line
use Rattle.lines.specs.Words.{same, cluster_word, take_word, prep_word, copy_word, open_word, issue_word, send_word}
use Rattle.hex_digits.specs.Hex.{is_hex, bytes_of}
use Rattle.lines.specs.Values.{fate_of, all_numbers, numbers_of}

-- what a line asks for: nothing ("prints bad and does nothing"), a fresh cluster of R and N, or a call with its data and locks
pub data Meaning : Type 0 where
  bad : Meaning
  cluster : ℕ → ℕ → Meaning
  asked : Call → List ℕ → List ℕ → Meaning

-- ---- a part of a line and what is made of it: a line that has none is bad

abbrev pub given : {A : Type 0} → Option A → (A → Meaning) → Meaning
given None k = bad
given (Some x) k = k x

-- a number: "beyond its width, 32 bits for generation and header, else 64" is bad
abbrev pub number_at : ℕ → List ℕ → (ℕ → Meaning) → Meaning
number_at i s k = given (number_of (field_of i s)) k

abbrev pub short_at : ℕ → List ℕ → (ℕ → Meaning) → Meaning
short_at i s k = given (word_of (number_of (field_of i s))) k

abbrev pub fate_at : ℕ → List ℕ → (Fate → Meaning) → Meaning
fate_at i s k = given (fate_of (number_of (field_of i s))) k

-- ---- the forms, behind their words

-- "cluster R N"
unfoldable pub cluster_form : List ℕ → Meaning
cluster_form s = number_at 1 s (λ r. number_at 2 s (λ n. cluster r n))

-- "take server fate", "open server fate"
abbrev pub server_fate : List ℕ → (ℕ → Fate → Call) → Meaning
server_fate s c = number_at 1 s (λ v. fate_at 2 s (λ f. asked (c v f) [] []))

-- "prep server replica fate", "send server replica fate"
abbrev pub server_replica_fate : List ℕ → (ℕ → ℕ → Fate → Call) → Meaning
server_replica_fate s c = number_at 1 s (λ v. number_at 2 s (λ i. fate_at 3 s (λ f. asked (c v i f) [] [])))

-- "copy server a b fate"
unfoldable pub copy_form : List ℕ → Meaning
copy_form s = number_at 1 s (λ v. number_at 2 s (λ a. number_at 3 s (λ b. fate_at 4 s (λ f. asked (call.Copy v a b f) [] []))))

-- "issue fills client, partition and sequence with 0"; document 02, No. 6, in place of the client's 0: "the script fills in client 100", which is no gate
abbrev pub request_of : ℕ → ℕ → ℕ → Request
request_of m g h = record { mark = m; client = 100; generation = g; partition = 0; sequence = 0; header = h }

-- "issue server client-mark generation header": what is made of the server and the request
abbrev pub request_then : List ℕ → (ℕ → Request → Meaning) → Meaning
request_then s k = number_at 1 s (λ v. number_at 2 s (λ m. short_at 3 s (λ g. short_at 4 s (λ h. k v (request_of m g h)))))

-- "data-hex and then each lock": field 5 is the data, the fields from 6 on are the locks
abbrev pub data_then : List ℕ → ℕ → Request → Meaning
data_then s v q =
    cond (is_hex (field_of 5 s) && all_numbers (field_count s - 6) (after_of 6 s))
    (asked (call.Issue v q) (bytes_of (field_of 5 s)) (numbers_of (field_count s - 6) (after_of 6 s)))
    bad

unfoldable pub issue_form : List ℕ → Meaning
issue_form s = request_then s (data_then s)

-- ---- the line

-- n fields, the first of which is the word w
abbrev pub begins : List ℕ → List ℕ → ℕ → Bool
begins s w n = same (field_of 0 s) w && eqb (field_count s) n

-- a line that does not begin as one form asks may be of the next
abbrev pub tried : List ℕ → List ℕ → ℕ → Meaning → Meaning → Meaning
tried s w n form next = cond (begins s w n) form next

-- the forms that have their number of fields
unfoldable pub plain_form : List ℕ → Meaning
plain_form s =
    tried s cluster_word 3 (cluster_form s)
    (tried s take_word 3 (server_fate s call.Take)
    (tried s prep_word 4 (server_replica_fate s call.Prepare)
    (tried s copy_word 5 (copy_form s)
    (tried s open_word 3 (server_fate s call.Open)
    (tried s send_word 4 (server_replica_fate s call.Send) bad)))))

-- issue has six fields, and then each lock
unfoldable pub form_of : List ℕ → Meaning
form_of s = cond (same (field_of 0 s) issue_word) (cond (leb 6 (field_count s)) (issue_form s) bad) (plain_form s)

-- "over 500 bytes"
abbrev pub line_limit : ℕ
line_limit = 500

unfoldable pub meaning_of : List ℕ → Meaning
meaning_of s = cond (leb (length s) line_limit) (form_of s) bad

-- ---- a meaning as the code gives it: what is asked, and beside it data and locks at the start of two buffers

abbrev pub line_of : Meaning → Option Line
line_of bad = None
line_of (cluster r n) = Some (line.Cluster r n)
line_of (asked c d l) = Some (line.Asked c (length d) (length l))

abbrev pub data_of : Meaning → List ℕ
data_of bad = []
data_of (cluster r n) = []
data_of (asked c d l) = d

abbrev pub locks_of : Meaning → List ℕ
locks_of bad = []
locks_of (cluster r n) = []
locks_of (asked c d l) = l

-- the first field of a line and the number of its fields
pub record Split (s w : List ℕ) (n : ℕ) : Type 0 where
  pub word : w ≡ field_of 0 s
  pub count : n ≡ field_count s

-- ---- and the parts of a line that several forms share, as the code gives them

abbrev pub one_then : Option (ℕ × Fate) → (ℕ → Fate → Call) → Meaning
one_then o c = given o (λ p. asked (c p.0 p.1) [] [])

abbrev pub two_then : Option (ℕ × ℕ × Fate) → (ℕ → ℕ → Fate → Call) → Meaning
two_then o c = given o (λ p. asked (c p.0 p.1 p.2) [] [])

abbrev pub head_then : Option (ℕ × Request) → (ℕ → Request → Meaning) → Meaning
head_then o k = given o (λ p. k p.0 p.1)
