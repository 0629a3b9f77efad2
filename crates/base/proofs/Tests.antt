-- Tests: what a passed one says, and how a return goes through a definition's tests.
-- Assumes nothing.
use mathlib.Core.Path.{◌≡◌, refl, sym}
use mathlib.Core.Bool.{Bool, true, false, cond, ◌&&◌, ◌||◌, false≢true}
use mathlib.Core.Logic.{◌⊎◌, inl, inr}
use Prim.Native.Nat.{ℕ, ◌≤◌, ◌<◌}
use lib.Dec.{ltb}
use borrow.Author.Tests.{ltb-true, ltb-false, lt-ltb, le-ltb, le-leb, lt-leb, eq-eqb, ne_eqb}
use borrow.Author.Rules.{rules}

pub lt_or_le : (a b : ℕ) → (a < b) ⊎ (b ≤ a)
lt_or_le a b = go (ltb a b) refl
  where
    go : (t : Bool) → ltb a b ≡ t → (a < b) ⊎ (b ≤ a)
    go true e = inl (ltb-true a b e)
    go false e = inr (ltb-false a b e)

-- ---- what a passed test says

pub both : (a b : Bool) → (a && b) ≡ true → (a ≡ true) × (b ≡ true)
both true b e = (refl, e)
both false b e = absurd (false≢true e)

pub either : (a b : Bool) → (a || b) ≡ true → (a ≡ true) ⊎ (b ≡ true)
either true b e = inl refl
either false b e = inr e

pub neither : (a b : Bool) → (a || b) ≡ false → (a ≡ false) × (b ≡ false)
neither true b e = absurd (false≢true (sym e))
neither false b e = (refl, e)

-- ---- a result against a definition's tests, each of which a fact on the way decides

module _ {ℓ} {A : Type ℓ} where
  pub cond_yes : (b : Bool) (x y z : A) → b ≡ true → x ≡ y → x ≡ cond b y z
  cond_yes b x y z h e = rw h e

  pub cond_no : (b : Bool) (x y z : A) → b ≡ false → x ≡ z → x ≡ cond b y z
  cond_no b x y z h e = rw h e

pub and_yes : (x a b : Bool) → a ≡ true → x ≡ b → x ≡ (a && b)
and_yes x a b h e = rw h e

pub and_no : (a b : Bool) → a ≡ false → false ≡ (a && b)
and_no a b h = rw h

pub or_yes : (a b : Bool) → a ≡ true → true ≡ (a || b)
or_yes a b h = rw h

pub or_no : (x a b : Bool) → a ≡ false → x ≡ b → x ≡ (a || b)
or_no x a b h e = rw h e

-- `search guards` proves the return of a function whose branches are comparisons in the order of the definition's tests
pub ruleset guards = (cond_yes, cond_no, and_yes, and_no, or_yes, or_no, lt-ltb, le-ltb, le-leb, lt-leb, eq-eqb, ne_eqb, rules)
