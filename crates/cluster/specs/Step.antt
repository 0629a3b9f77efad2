-- One call: unless declined, its effect. This is what the running calls are proved to do and what the guarantee is about.
-- Assumes nothing.
use Rattle.std.specs.Prelude.{List, ◌++◌, ℕ}
use Rattle.cluster.specs.declared.Shape.{Shape}
use Rattle.cluster.specs.declared.Request.{Request}
use Rattle.cluster.specs.declared.Call.{Call}
use Rattle.cluster.specs.declared.Call.TheVariants as call
use Rattle.segment.specs.Pair.{Files}
use Rattle.limits.specs.declared.Limits.{Limits}
use Rattle.cluster.specs.State.{State, server_at}
use Rattle.cluster.specs.Replies.{Reply, ok, no, silent}
use Rattle.cluster.specs.Refusals.{Input, Row, issue_checks, checks_of, list_of, rows_of, vote_mark, Verdict, pass, declined, first_of}
use Rattle.cluster.specs.Effects.{Result, no_bytes, prepare_effect, trim_effect, note_effect, read_effect, export_effect, exported_pair, copy_effect, send_effect, take_effect, open_effect, issue_effect, stop_effect, reassign_effect, restore_effect}

-- what each of the thirteen calls does
abbrev pub effect : Shape → State → Input → Call → Result
effect h x p (call.Take s f) = take_effect x s f
effect h x p (call.Prepare s i f) = prepare_effect h.places x s i f p.given
effect h x p (call.Copy s a b f) = copy_effect h.replicas h.places x s a b f p.given
effect h x p (call.Trim s i f) = trim_effect h.places (vote_mark h.replicas (server_at x.records s)) x s i f p.given
effect h x p (call.Open s f) = open_effect h.replicas (vote_mark h.replicas (server_at x.records s)) x s f
effect h x p (call.Issue s q) = issue_effect x s q p.content p.locks
effect h x p (call.Send s i f) = send_effect h.replicas h.places x s i f p.given
effect h x p (call.Note s i f) = note_effect h.places x s i f p.given
effect h x p (call.Read s i n f) = read_effect h.places x s i n f
effect h x p (call.Export s i f) = export_effect h.places x s i f
effect h x p (call.Stop s) = stop_effect x s
effect h x p call.Reassign = reassign_effect x
effect h x p (call.Restore i) = restore_effect h.places x i p.backup

-- "each gives its number and changes nothing"
unfoldable pub unless : Verdict → State → Result → Result
unless pass x e = e
unless (declined n values) x e = record { state = x; reply = no n values; bytes = no_bytes }

-- what is left of a call that passed a part of its list: the effect e, unless a row of the rest holds
abbrev pub rest : List Row → State → Result → Result
rest ws x e = unless (first_of ws) x e

-- a call that is admitted, and one whose message is sent
abbrev pub once_admitted : Shape → State → Input → Result
once_admitted h x p =
    let k = checks_of h x p p.call in
    rest (k.sending ++ k.receiving) x (effect h x p p.call)

abbrev pub once_sent : Shape → State → Input → Result
once_sent h x p = rest (checks_of h x p p.call).receiving x (effect h x p p.call)

unfoldable pub step : Shape → State → Input → Result
step h x p = rest (rows_of h x p) x (effect h x p p.call)

-- Document 02, No. 6: "What is shown about issue is shown once for a limit pair and used for both". An issue under a pair of limits; `step` of an issue is
-- this, under the pair that belongs to its client (proofs/Limited `own_pair`).
abbrev pub issue_under : Limits → Shape → State → ℕ → Request → List ℕ → List ℕ → Result
issue_under l h x s q content locks = rest (list_of (issue_checks l h x s q content locks)) x (issue_effect x s q content locks)

-- ================ the two files that are lent beside a call

-- what a call writes into them: only an export does
abbrev pub written : Shape → State → Input → Call → Files
written h x p (call.Take s f) = p.files
written h x p (call.Prepare s i f) = p.files
written h x p (call.Copy s a b f) = p.files
written h x p (call.Trim s i f) = p.files
written h x p (call.Open s f) = p.files
written h x p (call.Issue s q) = p.files
written h x p (call.Send s i f) = p.files
written h x p (call.Note s i f) = p.files
written h x p (call.Read s i n f) = p.files
written h x p (call.Export s i f) = exported_pair h.places x s i p.stamp
written h x p (call.Stop s) = p.files
written h x p call.Reassign = p.files
written h x p (call.Restore i) = p.files

-- document 02, No. 3: "no reply but ok changes them"
unfoldable pub if_ok : Reply → Files → Files → Files
if_ok (ok values) new old = new
if_ok (no n values) new old = old
if_ok silent new old = old

unfoldable pub files_after : Shape → State → Input → Files
files_after h x p = if_ok (step h x p).reply (written h x p p.call) p.files
