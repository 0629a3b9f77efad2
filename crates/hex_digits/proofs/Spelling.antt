-- Bytes and their digits, a byte at a time.
-- Assumes nothing.
use mathlib.Core.Path.{◌≡◌, refl, sym, ap, ◌∙◌}
use mathlib.Core.List.{List, [], ◌∷◌, ◌++◌, append_assoc}
use Prim.Native.Nat.{ℕ, suc, ◌+◌, ◌-◌, ◌*◌, ◌/◌, ◌%◌, ◌<◌, ◌≤◌}
use native.Mathlib.Numerals.{add-one}
use native.Mathlib.Omega.{arith}
use lib.ListN.{length, get_or, take, set}
use lib.Seq.{take-suc, take-suc-set, take_all, lt-length-set}
use borrow.Author.Tests.{lt-ltb, le-ltb}
use Rattle.hex_digits.specs.Hex.{glyph_of, hex_of}

pub glyph_low : (d : ℕ) → d < 10 → 48 + d ≡ glyph_of d
glyph_low d h = rw (lt-ltb d 10 h)

pub glyph_high : (d : ℕ) → 10 ≤ d → 65 + (d - 10) ≡ glyph_of d
glyph_high d h = rw (le-ltb d 10 h)

hex_append : (s t : List ℕ) → hex_of (s ++ t) ≡ hex_of s ++ hex_of t
unfolding hex_of
hex_append [] t = refl
hex_append (b ∷ s) t = ap (λ (l : List ℕ). glyph_of (b / 16) ∷ glyph_of (b % 16) ∷ l) (hex_append s t)

-- the digits of one byte more
hex_next : (s : List ℕ) (b : ℕ) → hex_of (s ++ (b ∷ [])) ≡ hex_of s ++ (glyph_of (b / 16) ∷ glyph_of (b % 16) ∷ [])
unfolding hex_of
hex_next s b = hex_append s (b ∷ [])

twice_next : (i : ℕ) → 2 * (i + 1) ≡ suc (suc (2 * i))
twice_next i = omega arith

-- two elements set
two_set : (s : List ℕ) (j x y : ℕ) → suc j < length s → take (suc (suc j)) (set (set s j x) (suc j) y) ≡ take j s ++ (x ∷ y ∷ [])
two_set s j x y h =
    take-suc-set (set s j x) (suc j) y (lt-length-set s j x h)
    ∙ ap (λ (l : List ℕ). l ++ (y ∷ [])) (take-suc-set s j x (omega arith))
    ∙ append_assoc (take j s) (x ∷ []) (y ∷ [])

-- a turn of spelling: x and y are the digits of byte i
pub spell_next : (b o : List ℕ) (i x y : ℕ) → i < length b → length o ≡ 2 * length b → x ≡ glyph_of (get_or b i 0 / 16) → y ≡ glyph_of (get_or b i 0 % 16)
    → take (2 * i) o ≡ hex_of (take i b) → take (2 * (i + 1)) (set (set o (2 * i) x) (2 * i + 1) y) ≡ hex_of (take (i + 1) b)
spell_next b o i x y h l p q e =
    let n = twice_next i in
    let m = add-one (2 * i) in
    let k : suc (2 * i) < length o = omega arith in
    rw (n, m, two_set o (2 * i) x y k, e, p, q, add-one i, take-suc b i 0 h)
    (sym (hex_next (take i b) (get_or b i 0)))

-- the end of both
pub hex_end : (b o : List ℕ) (i : ℕ) → length b ≤ i → i ≤ length b → length o ≡ 2 * length b → take (2 * i) o ≡ hex_of (take i b) → o ≡ hex_of b
hex_end b o i h g l e = sym (take_all (2 * i) o (omega arith)) ∙ e ∙ ap hex_of (take_all i b h)
