-- The register after the eight bytes of a number below 2 ^ 16: six zeros, whatever the number, and two bytes that are looked up apart.
-- Assumes nothing.
use mathlib.Core.Path.{◌≡◌, refl, sym, ap, ◌∙◌}
use mathlib.Core.List.{List, [], ◌∷◌, ◌++◌}
use Prim.Native.Nat.{ℕ, ◌/◌, ◌%◌, ◌<◌}
use native.Mathlib.Omega.{arith}
use lib.Bits.{bit_xor, xor_comm}
use Rattle.octets.specs.Octets.{be_bytes}
use Rattle.crc32.specs.Crc32.{bit_step, bit_steps, crc_from}
use Rattle.crc32.proofs.Xor.{xor_assoc}
use Rattle.crc32.proofs.Steps.{steps_add, steps_linear}
use Rattle.crc32.proofs.Words.{crc_append}
use Rattle.lanes.specs.Lanes.{after_number}

zeros : List ℕ
zeros = 0 ∷ 0 ∷ 0 ∷ 0 ∷ 0 ∷ 0 ∷ []

spelled : (n : ℕ) → n < 65536 → be_bytes 8 n ≡ zeros ++ (n / 256 ∷ n % 256 ∷ [])
unfolding be_bytes zeros
spelled n h =
    let a : n / 256 % 256 ≡ n / 256 = omega arith in
    let b : n / 256 / 256 ≡ 0 = omega arith in
    rw (a, b) refl

-- two bytes come into a register: each is stepped apart
two : (r a b : ℕ) → crc_from r (a ∷ b ∷ []) ≡ bit_xor (bit_xor (bit_steps 16 a) (bit_steps 8 b)) (bit_steps 16 r)
unfolding crc_from
two r a b =
    steps_linear 8 (bit_steps 8 (bit_xor r a)) b
    ∙ ap (λ (x : ℕ). bit_xor x (bit_steps 8 b)) (sym (steps_add 8 8 (bit_xor r a)) ∙ steps_linear 16 r a)
    ∙ xor_assoc (bit_steps 16 r) (bit_steps 16 a) (bit_steps 8 b)
    ∙ xor_comm (bit_steps 16 r) (bit_xor (bit_steps 16 a) (bit_steps 8 b))

behind_zeros : bit_steps 16 (crc_from 0xffff_ffff zeros) ≡ 0x9add_2096
unfolding crc_from bit_steps bit_step zeros
behind_zeros = refl

pub small : (n : ℕ) → n < 65536 → bit_xor (bit_xor (bit_steps 16 (n / 256)) (bit_steps 8 (n % 256))) 0x9add_2096 ≡ after_number n
unfolding after_number
small n h =
    ap (bit_xor (bit_xor (bit_steps 16 (n / 256)) (bit_steps 8 (n % 256)))) (sym behind_zeros)
    ∙ sym (two (crc_from 0xffff_ffff zeros) (n / 256) (n % 256))
    ∙ sym (crc_append 0xffff_ffff zeros (n / 256 ∷ n % 256 ∷ []))
    ∙ sym (ap (crc_from 0xffff_ffff) (spelled n h))
