-- What is computed over the numbers below n depends only on the values there.
-- Assumes nothing.
use mathlib.Core.Path.{◌≡◌, refl, ap₂}
use mathlib.Core.Bool.{Bool, ◌&&◌}
use mathlib.Core.List.{List}
use Prim.Native.Nat.{ℕ, zero, suc, ◌+◌, ◌<◌, max}
use native.Mathlib.Omega.{arith}
use lib.ListN.{set}
use Rattle.base.specs.Below.{all, bit, count, highest, up_to}

abbrev pub Same : {A : Type 0} → ℕ → (ℕ → A) → (ℕ → A) → Type 0
Same n f g = (i : ℕ) → i < n → f i ≡ g i

pub all_same : (n : ℕ) (p q : ℕ → Bool) → Same n p q → all p n ≡ all q n
unfolding all
all_same zero p q e = refl
all_same (suc n) p q e = ap₂ (λ (a b : Bool). a && b) (all_same n p q (λ i h. e i (omega arith))) (e n (omega arith))

pub count_same : (n : ℕ) (p q : ℕ → Bool) → Same n p q → count p n ≡ count q n
unfolding count
count_same zero p q e = refl
count_same (suc n) p q e = ap₂ (λ (x : ℕ) (b : Bool). x + bit b) (count_same n p q (λ i h. e i (omega arith))) (e n (omega arith))

pub highest_same : (n : ℕ) (f g : ℕ → ℕ) → Same n f g → highest f n ≡ highest g n
unfolding highest
highest_same zero f g e = refl
highest_same (suc n) f g e = ap₂ (λ (x y : ℕ). max x y) (highest_same n f g (λ i h. e i (omega arith))) (e n (omega arith))

pub up_to_same : {A : Type 0} (n : ℕ) (f g : ℕ → A) (l : List A) → Same n f g → up_to f l n ≡ up_to g l n
unfolding up_to
up_to_same zero f g l e = refl
up_to_same {A = A} (suc n) f g l e = ap₂ (λ (m : List A) (a : A). set m n a) (up_to_same n f g l (λ i h. e i (omega arith))) (e n (omega arith))
