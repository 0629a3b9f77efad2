-- The text that the script program prints for a line. Document 01, "Script program": "prints one line a call", "Reply: ok and the
-- value, no and the number, or silent", "prints bad".
-- Assumes nothing.
use Rattle.std.specs.Prelude.{List, [], ◌∷◌, ◌++◌, ℕ}
use Rattle.cluster.specs.Replies.{Reply, ok, no, silent, reply_of}
use Rattle.text.specs.Text.{tab, decimal_of}
pub use Rattle.text.specs.Text.{newline}
use Rattle.replies.specs.declared.Printed.{Printed}
use Rattle.replies.specs.declared.Printed.TheVariants as printed

-- ---- the words of replies, as bytes of ASCII

-- "ok"
abbrev pub ok_text : List ℕ
ok_text = 111 ∷ 107 ∷ []

-- "no"
abbrev pub no_text : List ℕ
no_text = 110 ∷ 111 ∷ []

-- "silent"
abbrev pub silent_text : List ℕ
silent_text = 115 ∷ 105 ∷ 108 ∷ 101 ∷ 110 ∷ 116 ∷ []

-- "bad"
abbrev pub bad_text : List ℕ
bad_text = 98 ∷ 97 ∷ 100 ∷ []

-- ---- what is printed

-- a word, a tab, a number and a newline
abbrev pub tagged : List ℕ → ℕ → List ℕ
tagged w n = w ++ (tab ∷ (decimal_of n ++ (newline ∷ [])))

-- of the values of refusal 15, the lock and its estimate, nothing is printed
abbrev pub reply_text : Reply → List ℕ
reply_text (ok []) = ok_text ++ (newline ∷ [])
reply_text (ok (v ∷ vs)) = tagged ok_text v
reply_text (no n vs) = tagged no_text n
reply_text silent = silent_text ++ (newline ∷ [])

abbrev pub text_of : Printed → List ℕ
text_of printed.Bad = bad_text ++ (newline ∷ [])
text_of (printed.Reply a) = reply_text (reply_of a)
