-- `quorum::vote_of` meets its contract. Each return is one of the three laws of a vote by what was counted.
-- Assumes nothing.
use mathlib.Core.Path.{◌≡◌, refl, ◌∙◌}
use mathlib.Core.Bool.{Bool, true, false}
use Prim.Native.Nat.{ℕ, suc, ◌+◌, ◌-◌, ◌≤◌}
use native.Mathlib.Omega.{arith}
use lib.Dec.{ltb}
use borrow.Author.Tests.{ltb-true, ltb-false}
use Rattle.std.specs.Bool.{then_some}
use Rattle.base.specs.Below.{count}
use Rattle.quorum.specs.Vote.{quorum, reach, majority_mark, vote_of}
use Rattle.base.proofs.Below.{counted_le}
use Rattle.quorum.proofs.Laws.{vote_few, vote_yes, vote_no}
use Rattle.quorum.proofs.vote_of.Goals as goal

pub returns-then-k-q : goal.returns-then-k-q
returns-then-k-q c = vote_few _ _ _ _ _ c.quorum_of-q.ensures c.count_flags-k.ensures c.if-k-q.true

pub overflow_sub-r : goal.overflow_sub-r
overflow_sub-r c = counted_le _ _ _ c.count_flags-k.ensures

pub overflow_add-more : goal.overflow_add-more
overflow_add-more c = omega (arith, counted_le _ _ _ c.reach_count-more.ensures)

-- what `then_some` gave is one of the two laws, by its test
settled : (known : ℕ → Bool) (mark : ℕ → ℕ) (r q n m x : ℕ) → q ≡ quorum r → n ≡ count known r → m ≡ majority_mark known mark r → x ≡ reach known mark r (suc m) → q ≤ n
    → (b : Bool) → ltb (x + (r - n)) q ≡ b → then_some b m ≡ vote_of known mark r
settled known mark r q n m x eq en em ex hq true t = vote_yes _ _ r q n eq en m x em ex hq (ltb-true _ _ t)
settled known mark r q n m x eq en em ex hq false t = vote_no _ _ r q n eq en m x em ex hq (ltb-false _ _ t)

pub returns : goal.returns
returns c =
    c.then_some.ensures
    ∙ settled _ _ _ _ _ _ _ c.quorum_of-q.ensures c.count_flags-k.ensures c.majority-m.ensures c.reach_count-more.ensures c.if-k-q.false _ refl
