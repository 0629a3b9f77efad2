-- Laws of xor that the library `lib.Bits` has not.
-- Assumes nothing.
use mathlib.Core.Path.{◌≡◌, refl, sym, ap, ap₂, ◌∙◌}
use Prim.Native.Nat.{ℕ, zero, suc, ◌+◌, ◌*◌, ◌/◌, ◌%◌, ◌<◌}
use native.Mathlib.Nat.{le_of_suc-le-suc, not-suc-le-zero, mod-lt, zero-mul}
use lib.Dec.{lit<}
use lib.Arith.{bin_ind, digits_mod}
use lib.Bits.{bit_xor, differ, xor_step, xor_shr, xor_comm, xor_zero_r, xor_self}

-- a fact of a bit is shown at 0 and at 1
bit_ind : (P : ℕ → Type 0) → P 0 → P 1 → (n : ℕ) → n < 2 → P n
bit_ind P p q zero h = p
bit_ind P p q (suc zero) h = q
bit_ind P p q (suc (suc n)) h = absurd (not-suc-le-zero (le_of_suc-le-suc (le_of_suc-le-suc h)))

bit : (n : ℕ) → n % 2 < 2
bit n = mod-lt n (lit< tt)

differ_bit : (x y : ℕ) → x < 2 → y < 2 → differ x y < 2
differ_bit x y hx hy =
    bit_ind (λ (n : ℕ). differ n y < 2) hy (bit_ind (λ (m : ℕ). differ 1 m < 2) (lit< tt) (lit< tt) y hy) x hx

differ_assoc : (x y z : ℕ) → x < 2 → y < 2 → z < 2 → differ (differ x y) z ≡ differ x (differ y z)
differ_assoc x y z hx hy hz =
    bit_ind (λ (a : ℕ). differ (differ a y) z ≡ differ a (differ y z)) refl
    (bit_ind (λ (b : ℕ). differ (differ 1 b) z ≡ differ 1 (differ b z)) refl
    (bit_ind (λ (e : ℕ). differ (differ 1 1) e ≡ differ 1 (differ 1 e)) refl refl z hz) y hy) x hx

differ_times : (p x y : ℕ) → x < 2 → y < 2 → differ x y * p ≡ bit_xor (x * p) (y * p)
differ_times p x y hx hy =
    bit_ind (λ (a : ℕ). differ a y * p ≡ bit_xor (a * p) (y * p)) (rw zero-mul)
    (bit_ind (λ (b : ℕ). differ 1 b * p ≡ bit_xor (1 * p) (b * p)) (rw (zero-mul, xor_zero_r)) (zero-mul p ∙ sym (xor_self (1 * p))) y hy) x hx

pub xor_half : (a b : ℕ) → bit_xor a b / 2 ≡ bit_xor (a / 2) (b / 2)
xor_half a b = xor_shr a b 1

pub xor_odd : (a b : ℕ) → bit_xor a b % 2 ≡ differ (a % 2) (b % 2)
xor_odd a b =
    ap (λ (x : ℕ). x % 2) (xor_step a b) ∙ digits_mod (bit_xor (a / 2) (b / 2)) (differ_bit (a % 2) (b % 2) (bit a) (bit b))

-- the low bit of an xor, times a number
pub xor_odd_times : (a b p : ℕ) → bit_xor a b % 2 * p ≡ bit_xor (a % 2 * p) (b % 2 * p)
xor_odd_times a b p = ap (λ (x : ℕ). x * p) (xor_odd a b) ∙ differ_times p (a % 2) (b % 2) (bit a) (bit b)

pub xor_assoc : (a b c : ℕ) → bit_xor (bit_xor a b) c ≡ bit_xor a (bit_xor b c)
xor_assoc a =
    bin_ind (λ (n : ℕ). (b c : ℕ) → bit_xor (bit_xor n b) c ≡ bit_xor n (bit_xor b c)) (λ b c. refl)
    (λ n ih b c. xor_step (bit_xor n b) c
    ∙ ap₂ (λ (x y : ℕ). x * 2 + y)
    (ap (λ (x : ℕ). bit_xor x (c / 2)) (xor_half n b) ∙ ih (b / 2) (c / 2) ∙ ap (bit_xor (n / 2)) (sym (xor_half b c)))
    (ap (λ (x : ℕ). differ x (c % 2)) (xor_odd n b) ∙ differ_assoc (n % 2) (b % 2) (c % 2) (bit n) (bit b) (bit c) ∙ ap (differ (n % 2)) (sym (xor_odd b c)))
    ∙ sym (xor_step n (bit_xor b c))) a

pub xor_swap : (a b c d : ℕ) → bit_xor (bit_xor a b) (bit_xor c d) ≡ bit_xor (bit_xor a c) (bit_xor b d)
xor_swap a b c d =
    xor_assoc a b (bit_xor c d)
    ∙ ap (bit_xor a) (sym (xor_assoc b c d) ∙ ap (λ (x : ℕ). bit_xor x d) (xor_comm b c) ∙ xor_assoc c b d)
    ∙ sym (xor_assoc a c (bit_xor b d))
