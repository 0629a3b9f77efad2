-- The answer to a line: what is printed, and the cluster after it. Document 01, "Script program".
-- Assumes nothing.
use Rattle.std.specs.Prelude.{List, [], cond, ℕ, ◌*◌, take, replicate}
use Rattle.octets.specs.Octets.{write_at}
use Rattle.storage.specs.Sizes.{place_size, medium_size}
use Rattle.cluster.specs.declared.Shape.{Shape}
use Rattle.cluster.specs.declared.Call.{Call}
use Rattle.cluster.specs.State.{State, fresh}
use Rattle.cluster.specs.Replies.{ok, no}
use Rattle.cluster.specs.Refusals.{Input}
use Rattle.cluster.specs.Effects.{Result}
use Rattle.cluster.specs.Step.{step}
use Rattle.checks.specs.Results.{no_files, no_stamp}
use Rattle.lines.specs.Forms.{Meaning, bad, cluster, asked}
use Rattle.shapes.specs.Shapes.{accepted}
use Rattle.replies.specs.declared.Printed.{Printed}
use Rattle.replies.specs.declared.Printed.TheVariants as printed
use Rattle.replies.specs.Texts.{text_of, reply_text}
use Rattle.answers.specs.declared.answer.Held.{Held}
use Rattle.answers.specs.declared.answer.Next.{Next}
use Rattle.answers.specs.declared.answer.Cluster.{Cluster}

-- a line's text, and what the program then holds: shape and records, media and lock tables
pub record After : Type 0 where
  pub text : List ℕ
  pub held : Held
  pub media : List ℕ
  pub tables : List ℕ

-- the running answer, with the lent slices at its end
abbrev pub after_of : Next → List ℕ → List ℕ → After
after_of n m tables = record { text = text_of n.printed; held = n.held; media = m; tables = tables }

-- what the running program prints for a line, and the cluster that it then has
abbrev pub left_of : Printed → Cluster → After
left_of p c = record { text = text_of p; held = c.held; media = c.media; tables = c.tables }

-- before the first cluster line: of a shape that none has, so that a call is bad; its records are those of a fresh cluster
unfoldable pub nothing : Held
nothing =
    let none : Shape = record { replicas = 0; places = 0; interval = 0 } in
    record { shape = none; records = (fresh none).records }

-- "does nothing": all is as it was
abbrev pub unchanged : List ℕ → Held → List ℕ → List ℕ → After
unchanged text p m tables = record { text = text; held = p; media = m; tables = tables }

-- the cluster that the program holds: its media are the first bytes of those that it has room for
abbrev pub cluster_of : Held → List ℕ → List ℕ → State
cluster_of p m tables = record { records = p.records; media = take (p.shape.replicas * medium_size p.shape.places) m; tables = tables }

-- a cluster is held instead
abbrev pub holding : List ℕ → Shape → State → List ℕ → After
holding text h x m = record { text = text; held = record { shape = h; records = x.records }; media = write_at 0 x.media m; tables = x.tables }

-- document 02, No. 1: "the script uses K = N"
abbrev pub scripted : ℕ → ℕ → Shape
scripted r n = record { replicas = r; places = n; interval = n }

-- "Each accepted cluster line starts afresh", "answers no 1 above that"
abbrev pub cluster_line : Shape → Held → List ℕ → List ℕ → After
cluster_line h p m tables = cond (accepted h) (holding (reply_text (ok [])) h (fresh h) m) (unchanged (reply_text (no 1 [])) p m tables)

-- fates of a script leave no given bytes, and no line exports or restores
abbrev pub input_of : Call → List ℕ → List ℕ → Input
input_of c content locks = record { call = c; content = content; locks = locks; given = replicate place_size 0; stamp = no_stamp; files = no_files; backup = [] }

-- a call's reply, and the cluster that it leaves
abbrev pub replied : Shape → Result → List ℕ → After
replied h r m = holding (reply_text r.reply) h r.state m

-- "or stands before the first accepted cluster line, prints bad and does nothing"
abbrev pub call_line : Input → Held → List ℕ → List ℕ → After
call_line i p m tables =
    cond (accepted p.shape) (replied p.shape (step p.shape (cluster_of p m tables) i) m) (unchanged (text_of printed.Bad) p m tables)

unfoldable pub answer_to : Meaning → Held → List ℕ → List ℕ → After
answer_to bad p m tables = unchanged (text_of printed.Bad) p m tables
answer_to (cluster r n) p m tables = cluster_line (scripted r n) p m tables
answer_to (asked c content locks) p m tables = call_line (input_of c content locks) p m tables
