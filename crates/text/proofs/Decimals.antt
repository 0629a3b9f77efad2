-- The kit's digits of a number, as few as hold it, are its text.
-- Assumes nothing.
use mathlib.Core.Path.{◌≡◌, ap, ◌∙◌}
use Prim.Native.Nat.{ℕ, zero, suc, ◌+◌, ◌-◌, ◌*◌, ◌/◌, ◌%◌, ◌^◌, ◌<◌, ◌≤◌}
use native.Mathlib.Nat.{pow-succ', one-le-pow, pow-le-pow_right}
use native.Mathlib.Omega.{arith}
use mathlib.Core.Logic.{⊎_elim}
use mathlib.Core.List.{[], ◌∷◌, ◌++◌}
use mathlib.Core.Bool.{Bool, true, false, cond}
use lib.Dec.{lit<, ltb}
use lib.ListN.{length, length-append}
use borrow.Author.Tests.{lt-ltb, le-ltb}
use Rattle.io.specs.Digits.{hex_digit_ascii, last_digits, IsDigitCount}
use Rattle.base.proofs.Tests.{lt_or_le}
use Rattle.text.specs.Text.{spelled}

figure : (n : ℕ) → n < 10 → hex_digit_ascii n ≡ 48 + n
figure n h = rw (lt-ltb n 10 h)

-- r digits hold n and no fewer do
pub spelled_is : (k r n : ℕ) → r ≤ k → IsDigitCount 10 1 n r → last_digits 10 r n ≡ spelled k n
unfolding spelled
spelled_is k zero n h f = absurd (omega (arith, f.0))
spelled_is zero (suc r) n h f = absurd (omega arith)
spelled_is (suc k) (suc zero) n h f =
    let s : n < 10 = omega (arith, f.1) in
    let q : n % 10 ≡ n = omega arith in
    rw (lt-ltb n 10 s, q, figure n s)
spelled_is (suc k) (suc (suc r)) n h f =
    let p = 10 ^ r in
    let e₁ : 10 ^ suc r ≡ 10 * p = pow-succ' 10 r in
    let e₂ : 10 ^ suc (suc r) ≡ 10 * (10 * p) = pow-succ' 10 (suc r) ∙ ap (λ (x : ℕ). 10 * x) e₁ in
    let q₁ : suc (suc r) - 1 ≡ suc r = omega arith in
    let q₂ : suc r - 1 ≡ r = omega arith in
    let least : 10 ^ suc r ≤ n = rw q₁ at (f.2 (omega arith)) in
    let lo : 10 * p ≤ n = omega arith in
    let ten : 10 ≤ n = omega (arith, one-le-pow r 10 (omega arith)) in
    let g : IsDigitCount 10 1 (n / 10) (suc r) = (omega arith, omega (arith, f.1), λ m. rw q₂ (omega arith)) in
    rw (le-ltb n 10 ten, spelled_is k (suc r) (n / 10) (omega arith) g, figure (n % 10) (omega arith))

-- 20 digits hold a number of 64 bits
pub few_digits : (v r : ℕ) → v < 2 ^ 64 → IsDigitCount 10 1 v r → r ≤ 20
few_digits v r h f = ⊎_elim too_many (λ k. k) (lt_or_le 20 r)
  where
    too_many : 20 < r → r ≤ 20
    too_many k =
        let i : 20 ≤ r - 1 = omega arith in
        let m : 10 ^ 20 ≤ 10 ^ (r - 1) = pow-le-pow_right {n = 10} (lit< tt) i in
        omega (arith, f.2 (omega arith))

-- k digits at most
pub spelled_few : (k n : ℕ) → length (spelled k n) ≤ k
unfolding spelled
spelled_few zero n = omega arith
spelled_few (suc k) n = go (ltb n 10) (spelled_few k (n / 10))
  where
    go : (t : Bool) → length (spelled k (n / 10)) ≤ k → length (cond t ((48 + n) ∷ []) (spelled k (n / 10) ++ ((48 + n % 10) ∷ []))) ≤ suc k
    go true h = omega arith
    go false h = simp length-append (omega arith)
