-- Numbers in base ten, a digit at a time.
-- Assumes nothing.
use mathlib.Core.Path.{◌≡◌, refl, ap}
use mathlib.Core.List.{List, [], ◌∷◌}
use Rattle.std.specs.Prelude.{Option, Some, None}
use Prim.Native.Nat.{ℕ, ◌+◌, ◌<◌, ◌≤◌}
use native.Mathlib.Numerals.{add-one}
use native.Mathlib.Omega.{arith}
use lib.ListN.{length, get_or, drop, drop_of_length-le}
use lib.Seq.{drop-cons}
use Rattle.text.specs.Text.{with_digit, with_digits, number_of}

-- what is no number stays none
pub digits_none : (s : List ℕ) → with_digits None s ≡ None
unfolding with_digits
digits_none [] = refl
digits_none (b ∷ s) = digits_none s

pub digits_next : (n : Option ℕ) (s : List ℕ) (i : ℕ) → i < length s → with_digits n (drop i s) ≡ with_digits (with_digit n (get_or s i 0)) (drop (i + 1) s)
unfolding with_digits
digits_next n s i h = rw (add-one, drop-cons s i 0 h)

pub digits_end : (n : Option ℕ) (s : List ℕ) (i : ℕ) → length s ≤ i → with_digits n (drop i s) ≡ n
unfolding with_digits
digits_end n s i h = ap (with_digits n) (drop_of_length-le s h)

pub no_digits : (s : List ℕ) → length s ≡ 0 → None ≡ number_of s
unfolding number_of
no_digits [] h = refl
no_digits (b ∷ s) h = absurd (omega arith)

pub digits_are : (s : List ℕ) → (length s ≡ 0 → ⊥) → with_digits (Some 0) s ≡ number_of s
unfolding number_of
digits_are [] h = absurd (h refl)
digits_are (b ∷ s) h = refl
