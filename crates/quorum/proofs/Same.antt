-- The vote depends only on the flags and marks of the r replicas.
-- Assumes nothing.
use mathlib.Core.Path.{◌≡◌, ap, ap₂, ◌∙◌}
use mathlib.Core.Bool.{Bool, cond, ◌&&◌}
use Prim.Native.Nat.{ℕ, suc, ◌+◌, ◌-◌}
use lib.Dec.{leb, ltb}
use Rattle.base.specs.Below.{count}
use Rattle.base.proofs.Same.{Same, count_same, highest_same}
use Rattle.std.specs.Prelude.{Some, None}
use Rattle.quorum.specs.Vote.{quorum, reach, backed, majority_mark, decided, vote_of}

module _ (r : ℕ) (p q : ℕ → Bool) (mark other : ℕ → ℕ) (e : Same r p q) (k : Same r mark other) where
  reach_same : (m : ℕ) → reach p mark r m ≡ reach q other r m
  reach_same m =
      count_same r (λ i. p i && leb m (mark i)) (λ i. q i && leb m (other i)) (λ i h. ap₂ (λ (b : Bool) (n : ℕ). b && leb m n) (e i h) (k i h))

  backed_same : Same r (backed p mark r) (backed q other r)
  unfolding backed
  backed_same i h = rw (e i h, k i h, reach_same (other i))

  pub majority_same : majority_mark p mark r ≡ majority_mark q other r
  unfolding majority_mark
  majority_same = highest_same r (backed p mark r) (backed q other r) backed_same

  pub decided_same : decided p mark r ≡ decided q other r
  unfolding decided
  decided_same =
      ap₂ (λ (k n : ℕ). leb (quorum r) k && ltb (reach p mark r (suc n) + (r - k)) (quorum r)) (count_same r p q e) majority_same
      ∙ ap (λ (n : ℕ). leb (quorum r) (count q r) && ltb (n + (r - count q r)) (quorum r)) (reach_same (suc (majority_mark q other r)))

  pub vote_same : vote_of p mark r ≡ vote_of q other r
  unfolding vote_of
  vote_same = ap₂ (λ (b : Bool) (n : ℕ). cond b (Some n) None) decided_same majority_same
