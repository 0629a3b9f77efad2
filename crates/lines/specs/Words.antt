-- The words of lines, as bytes of ASCII.
-- Assumes nothing.
use Rattle.std.specs.Prelude.{List, [], ◌∷◌, Bool, ℕ, nat_eq}
use Rattle.std.specs.Cmp.Lexicographic.{pointwise}

-- two texts are the same
abbrev pub same : List ℕ → List ℕ → Bool
same s t = pointwise nat_eq s t

-- "cluster"
abbrev pub cluster_word : List ℕ
cluster_word = 99 ∷ 108 ∷ 117 ∷ 115 ∷ 116 ∷ 101 ∷ 114 ∷ []

-- "take"
abbrev pub take_word : List ℕ
take_word = 116 ∷ 97 ∷ 107 ∷ 101 ∷ []

-- "prep"
abbrev pub prep_word : List ℕ
prep_word = 112 ∷ 114 ∷ 101 ∷ 112 ∷ []

-- "copy"
abbrev pub copy_word : List ℕ
copy_word = 99 ∷ 111 ∷ 112 ∷ 121 ∷ []

-- "open"
abbrev pub open_word : List ℕ
open_word = 111 ∷ 112 ∷ 101 ∷ 110 ∷ []

-- "issue"
abbrev pub issue_word : List ℕ
issue_word = 105 ∷ 115 ∷ 115 ∷ 117 ∷ 101 ∷ []

-- "send"
abbrev pub send_word : List ℕ
send_word = 115 ∷ 101 ∷ 110 ∷ 100 ∷ []
