-- Words about marks that count replicas: decided, clean, reached.
-- Assumes nothing.
use Rattle.std.specs.Prelude.{◌≡◌, Bool, true, false, not, ◌&&◌, ℕ, ◌+◌, ◌≤◌, ◌<◌, eqb}
use Rattle.std.proofs.Math.Logic.Dec
use Rattle.std.proofs.Math.Bool.{Bool-discrete}
use Rattle.std.proofs.Math.Decide.{dec_le, dec_lt}
use Rattle.protocol.specs.Columns.{count}
use Rattle.protocol.specs.State.{State}

-- replica j has the flag; it has not
abbrev pub flagged? : (flag : ℕ → Bool) (j : ℕ) → Dec (flag j ≡ true)
flagged? flag j = Bool-discrete (flag j) true

abbrev pub unflagged? : (flag : ℕ → Bool) (j : ℕ) → Dec (flag j ≡ false)
unflagged? flag j = Bool-discrete (flag j) false

-- it has the flag, and its mark is above D; it has the flag, and its mark reaches m
abbrev pub above? : (flag : ℕ → Bool) (mark : ℕ → ℕ) (D j : ℕ) → Dec ((flag j ≡ true) × (D < mark j))
above? flag mark D j = Dec.and (flagged? flag j) (dec_lt D (mark j))

abbrev pub reaches? : (flag : ℕ → Bool) (mark : ℕ → ℕ) (m j : ℕ) → Dec ((flag j ≡ true) × (m ≤ mark j))
reaches? flag mark m j = Dec.and (flagged? flag j) (dec_le m (mark j))

-- whose mark counts in the vote of s. Document 02, No. 10: a restored replica "counts as absent in the vote", by the entry that take handed over.
abbrev pub voter : State → ℕ → ℕ → Bool
voter σ s j = σ.known s j && not (σ.handed_restored s j)

-- "Decided: at least Q are known, and those of them reaching more, plus R minus the number known, are fewer than Q."
-- That at least Q are known follows from the rest, since R = 2 Q − 1; the guarantee does not use it.
abbrev pub Decided : State → ℕ → ℕ → Type 0
Decided σ s D = count (above? (voter σ s) (σ.recorded s) D) σ.R + count (unflagged? (voter σ s)) σ.R < σ.Q

-- "known replicas exactly at it (the clean ones)"; document 02, No. 10: a restored one too, if it "stands at the decided mark at open"
abbrev pub clean : State → ℕ → ℕ → ℕ → Bool
clean σ s D j = σ.known s j && eqb (σ.recorded s j) D

-- Q members' recorded marks reach m
abbrev pub Reached : State → ℕ → ℕ → Type 0
Reached σ s m = σ.Q ≤ count (reaches? (σ.member s) (σ.recorded s) m) σ.R
