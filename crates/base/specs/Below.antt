-- A test, a count, the highest value and a list written anew, each over the numbers below n: what a loop over an array computes.
-- All are shut (`unfoldable`): a loop's invariant names them at i, where they have to stand still, and a law adds the turn at i.
-- Assumes nothing.
use Rattle.std.specs.Prelude.{ℕ, zero, suc, ◌+◌, max, Bool, true, cond, ◌&&◌, List, set}

-- p holds at every number below n
unfoldable pub all : (ℕ → Bool) → ℕ → Bool
all p zero = true
all p (suc n) = all p n && p n

abbrev pub bit : Bool → ℕ
bit b = cond b 1 0

-- at how many of the numbers below n p holds
unfoldable pub count : (ℕ → Bool) → ℕ → ℕ
count p zero = 0
count p (suc n) = count p n + bit (p n)

-- the highest of the values of f at the numbers below n, 0 if there is none
unfoldable pub highest : (ℕ → ℕ) → ℕ → ℕ
highest f zero = 0
highest f (suc n) = max (highest f n) (f n)

-- l with f i at each place i below n
unfoldable pub up_to : {A : Type 0} → (ℕ → A) → List A → ℕ → List A
up_to f l zero = l
up_to f l (suc n) = set (up_to f l n) n (f n)
