-- Bit steps: they are linear, and the bits above the k low ones only move down in k steps.
-- Assumes nothing.
use mathlib.Core.Path.{◌≡◌, refl, sym, ap, ap₂, ◌∙◌}
use Prim.Native.Nat.{ℕ, zero, suc, ◌+◌, ◌*◌, ◌/◌, ◌%◌, ◌^◌, ◌<◌}
use native.Mathlib.Nat.{mul-one, mod-lt, zero-add, suc-add}
use native.Mathlib.Omega.{arith}
use lib.Pow.{split, pow_pos}
use lib.Bits.{bit_xor, differ, xor_lt, xor_shifted, shifted_half, shifted_even}
use Rattle.crc32.specs.Crc32.{polynomial, bit_step, bit_steps}
use Rattle.crc32.proofs.Xor.{xor_assoc, xor_swap, xor_half, xor_odd, xor_odd_times}

pub steps_add : (j k x : ℕ) → bit_steps (j + k) x ≡ bit_steps k (bit_steps j x)
unfolding bit_steps
steps_add zero k x = ap (λ (n : ℕ). bit_steps n x) (zero-add k)
steps_add (suc j) k x = ap (λ (n : ℕ). bit_steps n x) (suc-add j k) ∙ steps_add j k (bit_step x)

step_linear : (a b : ℕ) → bit_step (bit_xor a b) ≡ bit_xor (bit_step a) (bit_step b)
unfolding bit_step
step_linear a b =
    ap₂ bit_xor (xor_half a b) (xor_odd_times a b polynomial)
    ∙ xor_swap (a / 2) (b / 2) ((a % 2) * polynomial) ((b % 2) * polynomial)

pub steps_linear : (k a b : ℕ) → bit_steps k (bit_xor a b) ≡ bit_xor (bit_steps k a) (bit_steps k b)
unfolding bit_steps
steps_linear zero a b = refl
steps_linear (suc k) a b = ap (bit_steps k) (step_linear a b) ∙ steps_linear k (bit_step a) (bit_step b)

step_high : (k h y : ℕ) → bit_step (bit_xor (h * 2 ^ suc k) y) ≡ bit_xor (h * 2 ^ k) (bit_step y)
unfolding bit_step
step_high k h y =
    ap₂ (λ (a b : ℕ). bit_xor a (b * polynomial))
    (xor_half (h * 2 ^ suc k) y ∙ ap (λ (x : ℕ). bit_xor x (y / 2)) (shifted_half h k))
    (xor_odd (h * 2 ^ suc k) y ∙ ap (λ (x : ℕ). differ x (y % 2)) (shifted_even h k))
    ∙ xor_assoc (h * 2 ^ k) (y / 2) ((y % 2) * polynomial)

-- the bits above the k low ones only move down
pub steps_high : (k h y : ℕ) → bit_steps k (bit_xor (h * 2 ^ k) y) ≡ bit_xor h (bit_steps k y)
unfolding bit_steps
steps_high zero h y = ap (λ (x : ℕ). bit_xor x y) (mul-one h)
steps_high (suc k) h y = ap (bit_steps k) (step_high k h y) ∙ steps_high k h (bit_step y)

-- so the k low bits are stepped apart from the rest
pub steps_split : (k x : ℕ) → bit_steps k x ≡ bit_xor (x / 2 ^ k) (bit_steps k (x % 2 ^ k))
steps_split k x =
    ap (bit_steps k) (sym (split x k) ∙ sym (xor_shifted (x / 2 ^ k) k (x % 2 ^ k) (mod-lt x (pow_pos k))))
    ∙ steps_high k (x / 2 ^ k) (x % 2 ^ k)

-- and j steps more
pub steps_low : (k j x : ℕ) → bit_steps (k + j) x ≡ bit_xor (bit_steps j (x / 2 ^ k)) (bit_steps (k + j) (x % 2 ^ k))
steps_low k j x =
    steps_add k j x ∙ ap (bit_steps j) (steps_split k x) ∙ steps_linear j (x / 2 ^ k) (bit_steps k (x % 2 ^ k))
    ∙ ap (bit_xor (bit_steps j (x / 2 ^ k))) (sym (steps_add k j (x % 2 ^ k)))

step_lt : (r : ℕ) → r < 2 ^ 32 → bit_step r < 2 ^ 32
unfolding bit_step
step_lt r h = xor_lt 32 (r / 2) ((r % 2) * polynomial) (omega arith) (omega arith)

-- the register keeps to its 32 bits
pub steps_lt : (k r : ℕ) → r < 2 ^ 32 → bit_steps k r < 2 ^ 32
unfolding bit_steps
steps_lt zero r h = h
steps_lt (suc k) r h = steps_lt k (bit_step r) (step_lt r h)
