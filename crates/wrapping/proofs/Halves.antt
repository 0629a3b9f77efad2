-- The product by wrapping sums and halves, over the modulus m: the loop keeps acc + a × b, and b falls to 0.
-- Assumes nothing.
use Rattle.std.proofs.Common.{◌≡◌, ℕ, ◌+◌, ◌*◌, ◌/◌, ◌%◌, ◌<◌, sym, ap, ◌∙◌, mod-eq_of_lt, mul_assoc, add-mul, mul-zero, mul-one, mul-add, two-mul, arith}
use native.Mathlib.Nat.{mod-add-div, add-mul-mod_self_left, mod-add-mod}

-- a factor may be reduced before the product
scaled : (x y z m : ℕ) → (x + (y % m) * z) % m ≡ (x + y * z) % m
scaled x y z m =
    let w = (y / m) * z in
    let s : (y % m + m * (y / m)) * z ≡ (y % m) * z + m * w = add-mul (y % m) (m * (y / m)) z ∙ ap (λ (t : ℕ). (y % m) * z + t) (mul_assoc m (y / m) z) in
    let e : y * z ≡ (y % m) * z + m * w = ap (λ (t : ℕ). t * z) (sym (mod-add-div y m)) ∙ s in
    let f : x + y * z ≡ (x + (y % m) * z) + m * w = omega (arith, e) in
    sym (ap (λ (t : ℕ). t % m) f ∙ add-mul-mod_self_left (x + (y % m) * z) m w)

halved : (a b : ℕ) → a * (b % 2) + (a + a) * (b / 2) ≡ a * b
halved a b =
    let h = b / 2 in
    let e : a * b ≡ a * (b % 2) + a * (2 * h) = ap (λ (t : ℕ). a * t) (sym (mod-add-div b 2)) ∙ mul-add a (b % 2) (2 * h) in
    let f : a * (2 * h) ≡ a * h + a * h = ap (λ (t : ℕ). a * t) (two-mul h) ∙ mul-add a h h in
    omega (arith, e, f, add-mul a a h)

-- a turn of the loop
pub turn : (acc a b m : ℕ) → ((acc + a * (b % 2)) % m + ((a + a) % m) * (b / 2)) % m ≡ (acc + a * b) % m
turn acc a b m =
    mod-add-mod (acc + a * (b % 2)) m (((a + a) % m) * (b / 2))
    ∙ scaled (acc + a * (b % 2)) (a + a) (b / 2) m
    ∙ ap (λ (t : ℕ). t % m) (omega (arith, halved a b))

pub odd_add : (acc a b m : ℕ) → b % 2 ≡ 1 → (acc + a) % m ≡ (acc + a * (b % 2)) % m
odd_add acc a b m e = rw (e, mul-one)

pub even_keep : (acc a b m : ℕ) → b % 2 ≡ 0 → acc < m → acc ≡ (acc + a * (b % 2)) % m
even_keep acc a b m e l = rw (e, mul-zero) (sym (ap (λ (t : ℕ). t % m) (omega arith) ∙ mod-eq_of_lt l))

-- the loop's end
pub finished : (acc a b m p : ℕ) → (acc + a * b) % m ≡ p → acc < m → b ≡ 0 → acc ≡ p
finished acc a b m p e l z =
    let f : a * b ≡ 0 = ap (λ (t : ℕ). a * t) z ∙ mul-zero a in
    sym (ap (λ (t : ℕ). t % m) (omega (arith, f)) ∙ mod-eq_of_lt l) ∙ e
