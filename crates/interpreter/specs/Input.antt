-- What the bytes of the input make of the program, and what it writes: they come one by one, a newline ends a line, and the reply to a
-- line stands behind those to the lines before it. Document 01, "Script program": "prints one line a call".
-- Assumes nothing.
use Rattle.std.specs.Prelude.{cond, List, [], ◌∷◌, ◌++◌, ℕ, eqb, length, take, replicate}
use Rattle.lines.specs.Forms.{meaning_of}
use Rattle.replies.specs.Texts.{newline}
use Rattle.answers.specs.declared.answer.Held.{Held}
use Rattle.interpreter.specs.declared.program.Running.{Running}
use Rattle.answers.specs.Sizes.{line_room, media_limit, tables_length}
use Rattle.answers.specs.Answers.{After, nothing, answer_to}

-- the program between two bytes: what is held of the line begun, the cluster, and the replies that are not written yet
pub record Program : Type 0 where
  pub line : List ℕ
  pub held : Held
  pub media : List ℕ
  pub tables : List ℕ
  pub out : List ℕ

-- of a line too long for any form its first 501 bytes are held: enough to know that it is
abbrev pub with_line : Program → List ℕ → Program
with_line p l = record { line = take line_room l; held = p.held; media = p.media; tables = p.tables; out = p.out }

abbrev pub grown : Program → ℕ → Program
grown p b = with_line p (p.line ++ (b ∷ []))

-- the line is answered, its reply stands behind the others, and the next line begins
abbrev pub left : Program → After → Program
left p a = record { line = []; held = a.held; media = a.media; tables = a.tables; out = p.out ++ a.text }

abbrev pub ended : Program → Program
ended p = left p (answer_to (meaning_of p.line) p.held p.media p.tables)

unfoldable pub fed : Program → List ℕ → Program
fed p [] = p
fed p (b ∷ bs) = fed (cond (eqb b newline) (ended p) (grown p b)) bs

-- the end of the input: a last line without newline counts
abbrev pub closed : Program → Program
closed p = cond (eqb (length p.line) 0) p (ended p)

-- before the first byte
abbrev pub start : List ℕ → List ℕ → Program
start m tables = record { line = []; held = nothing; media = m; tables = tables; out = [] }

-- all that is written for an input; the media and lock tables held are zeros, which no line sees
abbrev pub written_for : List ℕ → List ℕ
written_for input = (closed (fed (start (replicate media_limit 0) (replicate tables_length 0)) input)).out

-- the replies are written: none is held
abbrev pub emptied : Program → Program
emptied p = record { line = p.line; held = p.held; media = p.media; tables = p.tables; out = [] }

-- n bytes of a line, o bytes of replies, and the cluster
abbrev pub program_of : ℕ → ℕ → Held → List ℕ → List ℕ → List ℕ → List ℕ → Program
program_of n o h line m tables out = record { line = take n line; held = h; media = m; tables = tables; out = take o out }

-- what the running program holds
abbrev pub program_in : Running → Program
program_in r = program_of r.n r.o r.cluster.held r.line r.cluster.media r.cluster.tables r.out
