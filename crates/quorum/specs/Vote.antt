-- The vote of a cluster's replicas: the majority mark, and whether it is decided.
-- `known i` says whether replica i is counted, `mark i` is the highest ID that it holds, r is R. Whoever is not known is absent: who that
-- is, is the caller's to say by the flags, and nothing here asks for the reason.
-- Assumes nothing.
use Rattle.std.specs.Prelude.{ℕ, suc, ◌+◌, ◌-◌, ◌/◌, Bool, false, cond, ◌&&◌, List, get_or, leb, ltb, Option, Some, None}
use Rattle.base.specs.Below.{count, highest}

-- the flags and the marks of an array
abbrev pub flags_of : List Bool → ℕ → Bool
flags_of l i = get_or l i false

abbrev pub marks_of : List ℕ → ℕ → ℕ
marks_of l i = get_or l i 0

-- "Q = (R + 1) / 2."
abbrev pub quorum : ℕ → ℕ
quorum r = (r + 1) / 2

-- how many known replicas reach the mark m
abbrev pub reach : (ℕ → Bool) → (ℕ → ℕ) → ℕ → ℕ → ℕ
reach known mark r m = count (λ i. known i && leb m (mark i)) r

-- replica i's mark if it is known and Q known replicas reach that mark, else 0
unfoldable pub backed : (ℕ → Bool) → (ℕ → ℕ) → ℕ → ℕ → ℕ
backed known mark r i = cond (known i && leb (quorum r) (reach known mark r (mark i))) (mark i) 0

-- "Majority mark: the highest mark that Q known replicas reach", 0 if there is none. The acknowledged mark is this one too, with
-- the members as the known: "the highest that Q members' marks reach, dropped members included (0 if a handed-in record has fewer
-- than Q members)".
unfoldable pub majority_mark : (ℕ → Bool) → (ℕ → ℕ) → ℕ → ℕ
majority_mark known mark r = highest (backed known mark r) r

-- "R minus the number known": these may hold anything
abbrev pub absent : (ℕ → Bool) → ℕ → ℕ
absent known r = r - count known r

-- "Decided: at least Q are known, and those of them reaching more, plus R minus the number known, are fewer than Q."
unfoldable pub decided : (ℕ → Bool) → (ℕ → ℕ) → ℕ → Bool
decided known mark r =
    leb (quorum r) (count known r)
    && ltb (reach known mark r (suc (majority_mark known mark r)) + absent known r) (quorum r)

-- the mark, where it is decided
unfoldable pub vote_of : (ℕ → Bool) → (ℕ → ℕ) → ℕ → Option ℕ
vote_of known mark r = cond (decided known mark r) (Some (majority_mark known mark r)) None
