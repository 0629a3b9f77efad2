-- Where a byte stands in a list.
-- Assumes nothing.
use Rattle.std.specs.Prelude.{List, [], ◌∷◌, Bool, true, false, ℕ, suc, take, drop, eqb}

-- the elements from offset i up to j
unfoldable pub slice : ℕ → ℕ → List ℕ → List ℕ
slice i j s = drop i (take j s)

-- how many elements stand before the first hit: none if the first is one, else one more than behind it
unfoldable pub index_after : Bool → ℕ → ℕ
index_after true n = 0
index_after false n = suc n

-- how many elements stand before the first that is c; all, where none is
unfoldable pub index_of : ℕ → List ℕ → ℕ
index_of c [] = 0
index_of c (b ∷ s) = index_after (eqb b c) (index_of c s)
