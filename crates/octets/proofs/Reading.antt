-- Numbers of a list of widths: written and read they are the same numbers, read and written the same bytes.
-- Assumes nothing.
use mathlib.Core.Path.{◌≡◌, refl, sym, ap, ap₂, ◌∙◌}
use mathlib.Core.Bool.{true, and-eq-true_iff}
use mathlib.Core.List.{List, [], ◌∷◌, ◌++◌, append_assoc}
use Prim.Native.Nat.{ℕ, zero, suc, ◌+◌, ◌*◌, ◌^◌, ◌<◌, ◌≤◌}
use native.Mathlib.Nat.{pow-suc}
use native.Mathlib.Omega.{arith}
use lib.Dec.{eqb, lit<}
use lib.Arith.{digits_lt}
use lib.ListN.{length, take, drop, replicate}
use lib.Seq.{take-nil, take_at, drop_at, drop-drop}
use borrow.Author.Tests.{eqb-true}
use Rattle.octets.specs.Octets.{part, be_from, be_of, be_bytes, fields_of, widths_of, total, numbers_at, Fits, Bytes, all_zero}
use Rattle.octets.proofs.Laws.{length_part, length_be}
use Rattle.octets.proofs.Numbers.{be_back, bytes_back}
use Rattle.octets.proofs.Bytes.{bytes_take, bytes_drop}

pub bytes_part : (o n : ℕ) (s : List ℕ) → Bytes s → Bytes (part o n s)
bytes_part o n s p = bytes_take n (drop o s) (bytes_drop o s p)

-- k bytes stand for a number below 256 to the power k
from_lt : (k a : ℕ) (s : List ℕ) → Bytes s → a < 256 ^ k → be_from a s < 256 ^ (k + length s)
unfolding be_from
from_lt k a [] p h = let q : k + 0 ≡ k = omega arith in rw q h
from_lt k a (b ∷ s) p h =
    let q : k + suc (length s) ≡ suc k + length s = omega arith in
    rw q (from_lt (suc k) (a * 256 + b) s p.1 (rw pow-suc (digits_lt h p.0)))

pub be_lt : (s : List ℕ) → Bytes s → be_of s < 256 ^ length s
unfolding be_of
be_lt s p = let q : 0 + length s ≡ length s = omega arith in rw q at (from_lt 0 0 s p (lit< tt))

pub part_lt : (o k : ℕ) (s : List ℕ) → Bytes s → o + k ≤ length s → be_of (part o k s) < 256 ^ k
part_lt o k s p h = rw (length_part o k s h) at (be_lt (part o k s) (bytes_part o k s p))

-- two parts, one behind the other
pub take_more : (j k : ℕ) (s : List ℕ) → take j s ++ take k (drop j s) ≡ take (j + k) s
take_more zero k s = let q : 0 + k ≡ k = omega arith in rw q
take_more (suc j) k [] = rw (take-nil k, take-nil (suc j + k))
take_more (suc j) k (b ∷ s) = let q : suc j + k ≡ suc (j + k) = omega arith in rw q (ap (λ (l : List ℕ). b ∷ l) (take_more j k s))

pub parts_join : (o j k : ℕ) (s : List ℕ) → part o j s ++ part (o + j) k s ≡ part o (j + k) s
parts_join o j k s = ap (λ (l : List ℕ). part o j s ++ take k l) (sym (drop-drop j o s)) ∙ take_more j k (drop o s)

-- numbers read, and written again, are the bytes that they were read from
pub numbers_back : (ws : List ℕ) (o : ℕ) (s : List ℕ) → Bytes s → o + total ws ≤ length s → fields_of (numbers_at ws o s) ≡ part o (total ws) s
unfolding fields_of
numbers_back [] o s p h = refl
numbers_back (w ∷ ws) o s p h =
    let e : be_bytes w (be_of (part o w s)) ≡ part o w s =
    ap (λ (n : ℕ). be_bytes n (be_of (part o w s))) (sym (length_part o w s (omega arith))) ∙ bytes_back (part o w s) (bytes_part o w s p) in
    ap₂ (λ (a b : List ℕ). a ++ b) e (numbers_back ws (o + w) s p (omega arith)) ∙ parts_join o w (total ws) s

-- numbers of their widths, read where they were written, are these
pub numbers_read : (fs : List (ℕ × ℕ)) (o : ℕ) (s rest : List ℕ) → Fits fs → drop o s ≡ fields_of fs ++ rest → numbers_at (widths_of fs) o s ≡ fs
unfolding fields_of
numbers_read [] o s rest p e = refl
numbers_read (f ∷ fs) o s rest p e =
    let w = f.0 in
    let b = be_bytes w f.1 in
    let n : length b ≡ w = length_be w f.1 in
    let d : drop o s ≡ b ++ (fields_of fs ++ rest) = e ∙ append_assoc b (fields_of fs) rest in
    let first : be_of (part o w s) ≡ f.1 = ap (λ (l : List ℕ). be_of (take w l)) d ∙ ap be_of (take_at b (fields_of fs ++ rest) w n) ∙ be_back w f.1 p.0 in
    let behind : drop (o + w) s ≡ fields_of fs ++ rest = sym (drop-drop w o s) ∙ ap (drop w) d ∙ drop_at b (fields_of fs ++ rest) w n in
    ap₂ (λ (v : ℕ) (l : List (ℕ × ℕ)). (w, v) ∷ l) first (numbers_read fs (o + w) s rest p.1 behind)

-- and numbers that are read have their widths
pub numbers_fit : (ws : List ℕ) (o : ℕ) (s : List ℕ) → Bytes s → o + total ws ≤ length s → Fits (numbers_at ws o s)
numbers_fit [] o s p h = tt
numbers_fit (w ∷ ws) o s p h = (part_lt o w s p (omega arith), numbers_fit ws (o + w) s p (omega arith))

pub numbers_widths : (ws : List ℕ) (o : ℕ) (s : List ℕ) → widths_of (numbers_at ws o s) ≡ ws
numbers_widths [] o s = refl
numbers_widths (w ∷ ws) o s = ap (λ (l : List ℕ). w ∷ l) (numbers_widths ws (o + w) s)

-- bytes that are all zero
pub zeros_are : (s : List ℕ) → all_zero s ≡ true → s ≡ replicate (length s) 0
unfolding all_zero
zeros_are [] h = refl
zeros_are (b ∷ s) h =
    let both = (and-eq-true_iff (eqb b 0) (all_zero s)).0 h in
    ap₂ (λ (x : ℕ) (l : List ℕ). x ∷ l) (eqb-true b 0 both.0) (zeros_are s both.1)

pub zeros_zero : (n : ℕ) → all_zero (replicate n 0) ≡ true
unfolding all_zero
zeros_zero zero = refl
zeros_zero (suc n) = zeros_zero n

pub bytes_zeros : (n : ℕ) → Bytes (replicate n 0)
bytes_zeros zero = tt
bytes_zeros (suc n) = (lit< tt, bytes_zeros n)
