-- Digits in pairs, as the code goes through them.
-- Assumes nothing.
use mathlib.Core.Path.{◌≡◌, refl, sym, ap, ◌∙◌}
use mathlib.Core.List.{List, [], ◌∷◌}
use mathlib.Core.Bool.{Bool, true, false, ◌&&◌}
use mathlib.Core.Logic.{◌≢◌, ◌↔◌}
use Rattle.std.specs.Bool.{IsTrue}
use Rattle.std.specs.Prelude.{EachIndex, Option, None, Some, SomeIff, IsSome}
use Rattle.std.proofs.lemmas.Bool.{false_from_ne_true, false≢true}
use Rattle.std.proofs.Math.Bool.{and-false}
use Prim.Native.Nat.{ℕ, zero, suc, ◌+◌, ◌-◌, ◌*◌, ◌/◌, ◌%◌, ◌<◌, ◌≤◌}
use native.Mathlib.Omega.{arith}
use lib.Dec.{ltb}
use lib.ListN.{length, get_or, drop, set, length-drop}
use borrow.Author.Tests.{lt-ltb, ltb-true}
use borrow.Author.Rules.{rules}
use Rattle.std.proofs.lemmas.Bool.Decides.{nat_tests}
use Rattle.base.proofs.Tests.{both}
use Rattle.octets.specs.Octets.{write_at}
use Rattle.octets.proofs.Lists.{drop_next}
use Rattle.hex_digits.specs.Hex.{digit_of, is_hex, bytes_of}
use Rattle.octets.proofs.Laws.{write_none}
use Rattle.hex_digits.proofs.Writes.{write_next}

-- ---- one digit

pub digit_figure : (b : ℕ) → 48 ≤ b → b ≤ 57 → b - 48 ≡ digit_of b
unfolding digit_of
digit_figure b l h = grind (arith, nat_tests)

pub digit_capital : (b : ℕ) → 65 ≤ b → b ≤ 70 → b - 55 ≡ digit_of b
unfolding digit_of
digit_capital b l h = grind (arith, nat_tests)

-- ---- a pair

module _ (s : List ℕ) (i : ℕ) where
  abbrev a : ℕ
  a = digit_of (get_or s i 0)

  abbrev b : ℕ
  b = digit_of (get_or s (i + 1) 0)

  pair_next : i + 1 < length s → drop i s ≡ get_or s i 0 ∷ get_or s (i + 1) 0 ∷ drop (i + 2) s
  pair_next h =
      let q : i + 1 + 1 ≡ i + 2 = omega arith in
      drop_next s i (omega arith) ∙ ap (λ (l : List ℕ). get_or s i 0 ∷ l) (drop_next s (i + 1) h ∙ ap (λ (n : ℕ). get_or s (i + 1) 0 ∷ drop n s) q)

  hex_cons : i + 1 < length s → is_hex (drop i s) ≡ (ltb a 16 && ltb b 16 && is_hex (drop (i + 2) s))
  unfolding is_hex
  hex_cons h = ap is_hex (pair_next h)

  -- what digits in pairs say of the next two
  pub hex_digits : i + 1 < length s → is_hex (drop i s) ≡ true → (a < 16) × (b < 16) × (is_hex (drop (i + 2) s) ≡ true)
  hex_digits h e =
      let p = both (ltb a 16 && ltb b 16) (is_hex (drop (i + 2) s)) (sym (hex_cons h) ∙ e) in
      let q = both (ltb a 16) (ltb b 16) p.0 in
      (ltb-true a 16 q.0, ltb-true b 16 q.1, p.1)

  pub bytes_next : i + 1 < length s → bytes_of (drop i s) ≡ (16 * a + b) ∷ bytes_of (drop (i + 2) s)
  unfolding bytes_of
  bytes_next h = ap bytes_of (pair_next h)

-- ---- all of them

hex_all : (s : List ℕ) → length s % 2 ≡ 0 → EachIndex s (λ k. digit_of (get_or s k 0) < 16) → is_hex s ≡ true
unfolding is_hex
hex_all [] e h = refl
hex_all (x ∷ []) e h = absurd (omega arith)
hex_all (x ∷ y ∷ s) e h =
    let l : 0 < suc (suc (length s)) = omega arith in
    let m : 1 < suc (suc (length s)) = omega arith in
    rw (lt-ltb (digit_of x) 16 (h 0 l), lt-ltb (digit_of y) 16 (h 1 m), hex_all s (omega arith) (λ k n. h (suc (suc k)) (omega arith)))

all_hex : (s : List ℕ) → is_hex s ≡ true → EachIndex s (λ k. digit_of (get_or s k 0) < 16)
unfolding is_hex
all_hex [] e k h = absurd (omega arith)
all_hex (x ∷ []) e k h = absurd (cc)
all_hex (x ∷ y ∷ s) e zero h = ltb-true (digit_of x) 16 (both (ltb (digit_of x) 16) (ltb (digit_of y) 16) (both (ltb (digit_of x) 16 && ltb (digit_of y) 16) (is_hex s) e).0).0
all_hex (x ∷ y ∷ s) e (suc zero) h = ltb-true (digit_of y) 16 (both (ltb (digit_of x) 16) (ltb (digit_of y) 16) (both (ltb (digit_of x) 16 && ltb (digit_of y) 16) (is_hex s) e).0).1
all_hex (x ∷ y ∷ s) e (suc (suc k)) h = all_hex s (both (ltb (digit_of x) 16 && ltb (digit_of y) 16) (is_hex s) e).1 k (omega arith)

-- an even number of digits
pub hex_even : (s : List ℕ) (b : Bool) → length s % 2 ≡ 0 → IsTrue b ↔ EachIndex s (λ k. digit_of (get_or s k 0) < 16) → b ≡ is_hex s
hex_even s true e h = sym (hex_all s e (h.0 refl))
hex_even s false e h = sym (false_from_ne_true (is_hex s) (λ p. false≢true (h.1 (all_hex s p))))

-- a digit too many
pub hex_odd : (s : List ℕ) → length s % 2 ≢ 0 → is_hex s ≡ false
unfolding is_hex
hex_odd [] e = absurd (e refl)
hex_odd (x ∷ []) e = refl
hex_odd (x ∷ y ∷ s) e = rw (hex_odd s (omega arith), and-false (ltb (digit_of x) 16 && ltb (digit_of y) 16))

bytes_none : (l : List ℕ) → length l ≤ 1 → bytes_of l ≡ []
unfolding bytes_of
bytes_none [] h = refl
bytes_none (x ∷ []) h = refl
bytes_none (x ∷ y ∷ l) h = absurd (omega arith)

pub bytes_end : (s : List ℕ) (i : ℕ) → length s / 2 ≤ i → bytes_of (drop (2 * i) s) ≡ []
bytes_end s i h = bytes_none (drop (2 * i) s) (simp length-drop (omega arith))

pub bytes_length : (s : List ℕ) → length (bytes_of s) ≡ length s / 2
unfolding bytes_of
bytes_length [] = refl
bytes_length (x ∷ []) = refl
bytes_length (x ∷ y ∷ s) = let q : suc (length s / 2) ≡ suc (suc (length s)) / 2 = omega arith in ap suc (bytes_length s) ∙ q

-- a digit that is found, and what it is
pub found : (r : Option ℕ) (v : ℕ) → SomeIff r (v < 16) v → v < 16 → IsSome r
found None v f p = absurd (f p)
found (Some x) v f p = search rules

pub found_is : (r : Option ℕ) (v x : ℕ) → SomeIff r (v < 16) v → r ≡ Some x → x ≡ v
found_is None v x f e = absurd (cc)
found_is (Some y) v x f e = cc

-- ---- reading: x and y are the digits of byte i, and o is what is written

module _ (s o : List ℕ) (i : ℕ) where
  pub hex_next : (x y : ℕ) → 2 * i + 1 < length s → i < length o → x ≡ digit_of (get_or s (2 * i) 0) → y ≡ digit_of (get_or s (2 * i + 1) 0)
      → write_at i (bytes_of (drop (2 * i) s)) o ≡ write_at (i + 1) (bytes_of (drop (2 * (i + 1)) s)) (set o i (16 * x + y))
  hex_next x y h l p q =
      let n : 2 * (i + 1) ≡ 2 * i + 2 = omega arith in
      rw (n, p, q, bytes_next s (2 * i) h) (write_next o i _ _ l)

  pub hex_read : length s / 2 ≤ i → write_at i (bytes_of (drop (2 * i) s)) o ≡ o
  hex_read h = ap (λ (l : List ℕ). write_at i l o) (bytes_end s i h) ∙ write_none o i
