-- A vote by what was counted: Q is q, n are known, m is the majority mark, x reach more.
-- Assumes nothing.
use mathlib.Core.Path.{◌≡◌, refl}
use mathlib.Core.Bool.{Bool, true, false}
use Prim.Native.Nat.{ℕ, suc, ◌+◌, ◌-◌, ◌≤◌, ◌<◌, max}
use native.Mathlib.Omega.{arith}
use borrow.Author.Tests.{lt-ltb, le-ltb, le-leb, lt-leb}
use mir.Val.{bool_byte}
use Rattle.std.specs.Ordering.{ord_max, nat_cmp}
use Rattle.std.proofs.lemmas.Bool.Decides.{nat_tests}
use Rattle.base.specs.Below.{bit, count}
use Rattle.std.specs.Prelude.{Some, None}
use Rattle.quorum.specs.Vote.{quorum, reach, absent, backed, majority_mark, decided, vote_of}

module _ (known : ℕ → Bool) (mark : ℕ → ℕ) (r q n : ℕ) (eq : q ≡ quorum r) (en : n ≡ count known r) where
  pub vote_few : n < q → None ≡ vote_of known mark r
  unfolding vote_of decided
  vote_few hq = rw (← en, ← eq, lt-leb _ _ hq)

  module _ (m x : ℕ) (em : m ≡ majority_mark known mark r) (ex : x ≡ reach known mark r (suc m)) (hq : q ≤ n) where
    pub vote_yes : x + (r - n) < q → Some m ≡ vote_of known mark r
    unfolding vote_of decided
    vote_yes hx = rw (← em, ← ex, ← eq, lt-ltb (x + absent known r) q (omega (arith, hx, en)), ← en, le-leb _ _ hq)

    pub vote_no : q ≤ x + (r - n) → None ≡ vote_of known mark r
    unfolding vote_of decided
    vote_no hx = rw (← em, ← ex, ← eq, le-ltb (x + absent known r) q (omega (arith, hx, en)), ← en, le-leb _ _ hq)

-- a flag cast to a number
pub bit_is : (b : Bool) → bool_byte b ≡ bit b
bit_is true = refl
bit_is false = refl

-- whoever is backed is compared, anyone else adds 0
pub higher_backed : (known : ℕ → Bool) (mark : ℕ → ℕ) (r i best q n : ℕ) → q ≡ quorum r → n ≡ reach known mark r (mark i) → known i ≡ true → q ≤ n → ord_max nat_cmp best (mark i) ≡ max best (backed known mark r i)
unfolding backed
higher_backed known mark r i best q n eq en k l = rw (k, ← en, ← eq, le-leb q n l) (grind (arith, nat_tests))

pub kept_few : (known : ℕ → Bool) (mark : ℕ → ℕ) (r i best q n : ℕ) → q ≡ quorum r → n ≡ reach known mark r (mark i) → known i ≡ true → n < q → best ≡ max best (backed known mark r i)
unfolding backed
kept_few known mark r i best q n eq en k l = rw (k, ← en, ← eq, lt-leb q n l) (omega arith)

pub kept_absent : (known : ℕ → Bool) (mark : ℕ → ℕ) (r i best : ℕ) → known i ≡ false → best ≡ max best (backed known mark r i)
unfolding backed
kept_absent known mark r i best k = rw k (omega arith)
