-- Condition 2 for the two definitions by which refusal 8, open and trim are defined, `decided` and `majority_mark`: what Filling says of the vote.
-- The mark is not decided exactly if two ways of filling in the absent replicas' marks with 0 to N give different highest marks held by a
-- majority; it is decided exactly if every way gives the same, and then that is the majority mark. The theorem is `deciding`.
-- Assumes nothing.
use mathlib.Core.Path.{◌≡◌, refl, sym, ◌∙◌}
use mathlib.Core.Bool.{Bool, true, false}
use mathlib.Core.Logic.{◌↔◌}
use Prim.Native.Nat.{ℕ}
use native.Mathlib.Omega.{arith}
use Rattle.std.specs.Prelude.{Some, None}
use Rattle.quorum.specs.Vote.{majority_mark, decided, vote_of}
use Rattle.quorum.proofs.Filling.{EveryFillingGives, FillingsDiffer, ClusterSize, KnownWithin, filling}

-- ---- the statement

pub record Deciding (known : ℕ → Bool) (mark : ℕ → ℕ) (r n : ℕ) : Type 0 where
  pub undecided : (decided known mark r ≡ false) ↔ FillingsDiffer known mark r n
  pub decided : (decided known mark r ≡ true) ↔ EveryFillingGives known mark r n (majority_mark known mark r)
  -- no other mark is given by every way
  pub only : (d : ℕ) → EveryFillingGives known mark r n d → d ≡ majority_mark known mark r

abbrev pub Statement : Type 0
Statement =
    (known : ℕ → Bool) (mark : ℕ → ℕ) (r n : ℕ)
    → ClusterSize r n → KnownWithin known mark r n → Deciding known mark r n

-- ---- its proof

module _ (known : ℕ → Bool) (mark : ℕ → ℕ) (r : ℕ) where
  vote_decided : decided known mark r ≡ true → vote_of known mark r ≡ Some (majority_mark known mark r)
  unfolding vote_of
  vote_decided e = rw e

  vote_undecided : decided known mark r ≡ false → vote_of known mark r ≡ None
  unfolding vote_of
  vote_undecided e = rw e

  decided_vote : (d : ℕ) → vote_of known mark r ≡ Some d → (decided known mark r ≡ true) × (d ≡ majority_mark known mark r)
  unfolding vote_of
  decided_vote d e = go (decided known mark r) refl
    where
      go : (b : Bool) → decided known mark r ≡ b → (b ≡ true) × (d ≡ majority_mark known mark r)
      go true q = (refl, let v : Some d ≡ Some (majority_mark known mark r) = sym e ∙ vote_decided q in cc)
      go false q = absurd (let z : ◌≡◌ {A = ℕ} 0 1 = cc (e, vote_undecided q) in omega arith)

  undecided_vote : vote_of known mark r ≡ None → decided known mark r ≡ false
  undecided_vote e = go (decided known mark r) refl
    where
      go : (b : Bool) → decided known mark r ≡ b → b ≡ false
      go true q = absurd (let z : ◌≡◌ {A = ℕ} 0 1 = cc (e, vote_decided q) in omega arith)
      go false q = refl

pub deciding : Statement
deciding known mark r n size low =
    let F = filling known mark r n size low in
    record {
      undecided = (
        λ e. F.undecided.0 (vote_undecided known mark r e),
        λ f. undecided_vote known mark r (F.undecided.1 f),
      );
      decided = (
        λ e. (F.decided (majority_mark known mark r)).0 (vote_decided known mark r e),
        λ all. (decided_vote known mark r _ ((F.decided (majority_mark known mark r)).1 all)).0,
      );
      only = λ d all. (decided_vote known mark r d ((F.decided d).1 all)).1;
    }
