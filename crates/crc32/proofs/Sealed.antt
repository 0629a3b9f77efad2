-- Bytes and their CRC behind them: sealed bytes pass their check, and bytes that pass it are sealed.
-- Assumes nothing.
use mathlib.Core.Path.{◌≡◌, sym, ap, ap₂, ◌∙◌}
use mathlib.Core.Bool.{true}
use mathlib.Core.List.{List, [], ◌∷◌, ◌++◌}
use Prim.Native.Nat.{ℕ, ◌+◌, ◌^◌, ◌<◌, zero-le}
use native.Mathlib.Nat.{lt_trans, zero-add}
use native.Mathlib.Omega.{arith}
use lib.Dec.{lit<}
use lib.ListN.{length, take, drop, length-append, length-drop, take-append-drop}
use lib.Seq.{take_at, drop_at, take_all}
use lib.Bits.{bit_xor, xor_lt}
use borrow.Author.Tests.{eq-eqb, eqb-true}
use Rattle.octets.specs.Octets.{part, write_at, be_of, be_bytes, Bytes}
use Rattle.octets.proofs.Laws.{length_be, write_write, write_all}
use Rattle.octets.proofs.Numbers.{be_back, bytes_back}
use Rattle.crc32.specs.Crc32.{bit_steps, crc_from, crc_of, checked, sealed}
use Rattle.crc32.proofs.Steps.{steps_lt}
use Rattle.octets.proofs.Bytes.{bytes_drop}

-- ---- a CRC has 32 bits

from_lt : (r : ℕ) (s : List ℕ) → Bytes s → r < 2 ^ 32 → crc_from r s < 2 ^ 32
unfolding crc_from
from_lt r [] p h = h
from_lt r (b ∷ bs) p h = from_lt (bit_steps 8 (bit_xor r b)) bs p.1 (steps_lt 8 (bit_xor r b) (xor_lt 32 r b h (lt_trans p.0 (lit< tt))))

pub crc_lt : (s : List ℕ) → Bytes s → crc_of s < 2 ^ 32
unfolding crc_of
crc_lt s p = xor_lt 32 (crc_from 0xffff_ffff s) 0xffff_ffff (from_lt 0xffff_ffff s p (lit< tt)) (lit< tt)

-- ---- sealed bytes

pub length_sealed : (h : List ℕ) → length (sealed h) ≡ length h + 4
unfolding sealed
length_sealed h = length-append h (be_bytes 4 (crc_of h)) ∙ ap (λ (n : ℕ). length h + n) (length_be 4 (crc_of h))

-- they pass their check
pub sealed_checked : (k : ℕ) (h : List ℕ) → length h ≡ k → Bytes h → checked k (sealed h) ≡ true
unfolding checked sealed
sealed_checked k h l p =
    let b = be_bytes 4 (crc_of h) in
    let e₁ : take k (h ++ b) ≡ h = take_at h b k l in
    let e₂ : part k 4 (h ++ b) ≡ b = ap (take 4) (drop_at h b k l) ∙ take_all 4 b (omega (arith, length_be 4 (crc_of h))) in
    eq-eqb (crc_of (take k (h ++ b))) (be_of (part k 4 (h ++ b)))
    (ap crc_of e₁ ∙ sym (ap be_of e₂ ∙ be_back 4 (crc_of h) (crc_lt h p)))

-- and bytes that pass it are sealed ones
pub checked_sealed : (k : ℕ) (s : List ℕ) → Bytes s → length s ≡ k + 4 → checked k s ≡ true → s ≡ sealed (take k s)
unfolding checked sealed
checked_sealed k s p l e =
    let d = drop k s in
    let n : length d ≡ 4 = omega (arith, length-drop k s) in
    let v : crc_of (take k s) ≡ be_of d = eqb-true (crc_of (take k s)) (be_of (take 4 d)) e ∙ ap be_of (take_all 4 d (omega arith)) in
    let b : be_bytes 4 (be_of d) ≡ d = ap (λ (w : ℕ). be_bytes w (be_of d)) (sym n) ∙ bytes_back d (bytes_drop k s p) in
    sym (take-append-drop k s) ∙ ap (λ (t : List ℕ). take k s ++ t) (sym (ap (be_bytes 4) v ∙ b))

-- ---- sealing

take_write : (k : ℕ) (h m : List ℕ) → length h ≡ k → take k (write_at 0 h m) ≡ h
unfolding write_at
take_write k h m l = take_at h _ k l

-- k bytes written at the front, and their CRC behind them, are the whole
pub seal_all : (k : ℕ) (h m l l' : List ℕ) → length h ≡ k → k + 4 ≡ length m
    → l ≡ write_at 0 h m → l' ≡ write_at k (be_bytes 4 (crc_of (take k l))) l → l' ≡ sealed h
unfolding sealed
seal_all k h m l l' n w e e' =
    let b = be_bytes 4 (crc_of h) in
    let z : length (h ++ b) ≡ length m = length-append h b ∙ ap₂ (λ (x y : ℕ). x + y) n (length_be 4 (crc_of h)) ∙ w in
    let t : take k l ≡ h = ap (take k) e ∙ take_write k h m n in
    e' ∙ ap₂ (λ (x y : List ℕ). write_at k (be_bytes 4 (crc_of x)) y) t e
    ∙ write_write 0 k h b m zero-le (zero-add (length h) ∙ n)
    ∙ write_all (h ++ b) m z
