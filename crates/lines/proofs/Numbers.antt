-- Fields that are numbers, as the code goes through them.
-- Assumes nothing.
use mathlib.Core.Path.{◌≡◌, refl, ap, ◌∙◌}
use mathlib.Core.List.{List, [], ◌∷◌}
use mathlib.Core.Bool.{true, false, ◌&&◌}
use Prim.Native.Nat.{ℕ, zero, suc, ◌+◌, ◌-◌, ◌<◌, ◌≤◌}
use native.Mathlib.Nat.{not-suc-le-zero}
use native.Mathlib.Omega.{arith}
use lib.ListN.{length, set}
use Rattle.octets.specs.Octets.{write_at}
use Rattle.std.specs.Prelude.{is_some, unwrap_or}
use Rattle.text.specs.Text.{first_of, behind_of, number_of}
use Rattle.lines.specs.Values.{all_numbers, numbers_of}
use Rattle.octets.proofs.Laws.{write_none}
use Rattle.hex_digits.proofs.Writes.{write_next}

-- turn i of n
all_cons : (n i : ℕ) (t : List ℕ) → i < n → all_numbers (n - i) t ≡ (is_some (number_of (first_of t)) && all_numbers (n - (i + 1)) (behind_of t))
unfolding all_numbers
all_cons n i t h = let q : n - i ≡ suc (n - (i + 1)) = omega arith in rw q

module _ (n i : ℕ) (t : List ℕ) (h : i < n) where
  pub all_stop : is_some (number_of (first_of t)) ≡ false → all_numbers (n - i) t ≡ false
  all_stop e = all_cons n i t h ∙ rw e

  pub all_next : is_some (number_of (first_of t)) ≡ true → all_numbers (n - i) t ≡ all_numbers (n - (i + 1)) (behind_of t)
  all_next e = all_cons n i t h ∙ rw e

pub all_end : (n i : ℕ) (t : List ℕ) → n ≤ i → all_numbers (n - i) t ≡ true
unfolding all_numbers
all_end n i t h = let q : n - i ≡ 0 = omega arith in rw q

numbers_cons : (n : ℕ) (t : List ℕ) → 0 < n → numbers_of n t ≡ unwrap_or (number_of (first_of t)) 0 ∷ numbers_of (n - 1) (behind_of t)
unfolding numbers_of
numbers_cons zero t h = absurd (not-suc-le-zero h)
numbers_cons (suc n) t h = let q : suc n - 1 ≡ n = omega arith in rw q

pub numbers_next : (n i : ℕ) (t : List ℕ) → i < n → numbers_of (n - i) t ≡ unwrap_or (number_of (first_of t)) 0 ∷ numbers_of (n - (i + 1)) (behind_of t)
numbers_next n i t h =
    let q : n - i - 1 ≡ n - (i + 1) = omega arith in
    numbers_cons (n - i) t (omega arith) ∙ ap (λ (k : ℕ). unwrap_or (number_of (first_of t)) 0 ∷ numbers_of k (behind_of t)) q

pub numbers_end : (n i : ℕ) (t : List ℕ) → n ≤ i → numbers_of (n - i) t ≡ []
unfolding numbers_of
numbers_end n i t h = let q : n - i ≡ 0 = omega arith in ap (λ (k : ℕ). numbers_of k t) q

pub numbers_length : (n : ℕ) (t : List ℕ) → length (numbers_of n t) ≡ n
unfolding numbers_of
numbers_length zero t = refl
numbers_length (suc n) t = ap suc (numbers_length n (behind_of t))

-- ---- reading: v is number i, and o is what is written

pub numbers_write : (n i v : ℕ) (o t u : List ℕ) → i < n → i < length o → v ≡ unwrap_or (number_of (first_of t)) 0 → u ≡ behind_of t
    → write_at i (numbers_of (n - i) t) o ≡ write_at (i + 1) (numbers_of (n - (i + 1)) u) (set o i v)
numbers_write n i v o t u h l p q = rw (p, q, numbers_next n i t h) (write_next o i _ _ l)

pub numbers_read : (n i : ℕ) (o t : List ℕ) → n ≤ i → write_at i (numbers_of (n - i) t) o ≡ o
numbers_read n i o t h = ap (λ (l : List ℕ). write_at i l o) (numbers_end n i t h) ∙ write_none o i
