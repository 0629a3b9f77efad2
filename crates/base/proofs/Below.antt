-- Laws of `all`, `count`, `highest` and `up_to`: a turn of the loop that computes them, and what they say.
-- Assumes nothing.
use mathlib.Core.Path.{◌≡◌, refl, ap, ◌∙◌}
use mathlib.Core.Bool.{Bool, true, false, ◌&&◌}
use mathlib.Core.List.{List}
use mathlib.Core.Logic.{⊎_elim}
use Prim.Native.Nat.{ℕ, zero, suc, ◌+◌, ◌≤◌, ◌<◌, max}
use native.Mathlib.Numerals.{add-one}
use native.Mathlib.Omega.{arith}
use lib.ListN.{length, set, get_or, length-set}
use lib.Seq.{get_or-set_same, get_or-set_other}
use Rattle.base.specs.Below.{all, bit, count, highest, up_to}
use Rattle.base.proofs.Tests.{lt_or_le, both}

-- ---- all

pub all_step : (p : ℕ → Bool) (i : ℕ) (a b c : Bool) → a ≡ all p i → b ≡ p i → c ≡ (a && b) → c ≡ all p (i + 1)
unfolding all
all_step p i a b c e f g = rw (add-one, ← e, ← f, g)

pub all_at : (p : ℕ → Bool) (n i : ℕ) → all p n ≡ true → i < n → p i ≡ true
unfolding all
all_at p zero i h l = absurd (omega arith)
all_at p (suc n) i h l =
    let b = both (all p n) (p n) h in
    ⊎_elim (λ w. all_at p n i b.0 w) (λ w. let q : i ≡ n = omega arith in rw q b.1) (lt_or_le i n)

-- ---- count

pub bit_le : (b : Bool) → bit b ≤ 1
bit_le true = omega arith
bit_le false = omega arith

pub count_step : (p : ℕ → Bool) (i n x : ℕ) → n ≡ count p i → x ≡ bit (p i) → n + x ≡ count p (i + 1)
unfolding count
count_step p i n x e f = rw (add-one, e, f)

pub count_le : (p : ℕ → Bool) (n : ℕ) → count p n ≤ n
unfolding count
count_le p zero = omega arith
count_le p (suc n) = omega (arith, count_le p n, bit_le (p n))

pub counted_le : (p : ℕ → Bool) (i n : ℕ) → n ≡ count p i → n ≤ i
counted_le p i n e = rw e (count_le p i)

pub count_room : (p : ℕ → Bool) (i n x : ℕ) → n ≡ count p i → x ≡ bit (p i) → n + x ≤ i + 1
count_room p i n x e f = counted_le p (i + 1) (n + x) (count_step p i n x e f)

-- two counts against two others, by what holds at each number
pub count_sum : (p a b d : ℕ → Bool) (n : ℕ) → ((i : ℕ) → i < n → bit (p i) + bit (a i) ≤ bit (b i) + bit (d i)) → count p n + count a n ≤ count b n + count d n
unfolding count
count_sum p a b d zero h = omega arith
count_sum p a b d (suc n) h =
    omega (arith, h n (omega arith), count_sum p a b d n (λ i l. h i (omega arith)))

pub count_mono : (p b : ℕ → Bool) (n : ℕ) → ((i : ℕ) → i < n → bit (p i) ≤ bit (b i)) → count p n ≤ count b n
count_mono p b n h = omega (arith, count_sum p b b b n (λ i l. omega (arith, h i l)))

pub count_every : (n : ℕ) → count (λ i. true) n ≡ n
unfolding count
count_every zero = refl
count_every (suc n) = omega (arith, count_every n)

pub count_none : (p : ℕ → Bool) (n : ℕ) → ((i : ℕ) → i < n → p i ≡ false) → count p n ≡ 0
unfolding count
count_none p zero h = refl
count_none p (suc n) h = rw (h n (omega arith)) (omega (arith, count_none p n (λ i l. h i (omega arith))))

-- a count above 0 has a member
pub count_some : (p : ℕ → Bool) (n : ℕ) → 0 < count p n → (i : ℕ) × (i < n) × (p i ≡ true)
unfolding count
count_some p zero l = absurd (omega arith)
count_some p (suc n) l = go (p n) refl (count_some p n)
  where
    go : (b : Bool) → p n ≡ b → (0 < count p n → (i : ℕ) × (i < n) × (p i ≡ true)) → (i : ℕ) × (i < suc n) × (p i ≡ true)
    go true e ih = (n, omega arith, e)
    go false e ih =
        let w = ih (omega (arith, ap bit e, l)) in
        (w.0, omega (arith, w.1), w.2)

-- the count from the other end
pub count_front : (p : ℕ → Bool) (n : ℕ) → count p (suc n) ≡ bit (p 0) + count (λ i. p (suc i)) n
unfolding count
count_front p zero = omega arith
count_front p (suc n) = omega (arith, count_front p n)

-- ---- highest

pub highest_step : (f : ℕ → ℕ) (i n x : ℕ) → n ≡ highest f i → x ≡ max n (f i) → x ≡ highest f (i + 1)
unfolding highest
highest_step f i n x e g = rw (add-one, ← e, g)

pub highest_ge : (f : ℕ → ℕ) (n i : ℕ) → i < n → f i ≤ highest f n
unfolding highest
highest_ge f zero i l = absurd (omega arith)
highest_ge f (suc n) i l =
    ⊎_elim (λ w. omega (arith, highest_ge f n i w)) (λ (w : n ≤ i). let e : i ≡ n = omega arith in rw e (omega arith)) (lt_or_le i n)

-- what holds of 0 and of each value holds of the highest
pub highest_ind : (P : ℕ → Type 0) (f : ℕ → ℕ) (n : ℕ) → P 0 → ((i : ℕ) → i < n → P (f i)) → P (highest f n)
unfolding highest
highest_ind P f zero z h = z
highest_ind P f (suc n) z h =
    let a = highest f n in
    ⊎_elim
    (λ w. let e : max a (f n) ≡ f n = omega arith in rw e (h n (omega arith)))
    (λ w. let e : max a (f n) ≡ a = omega arith in rw e (highest_ind P f n z (λ i l. h i (omega arith))))
    (lt_or_le a (f n))

-- ---- up_to

module _ {A : Type 0} (f : ℕ → A) (l : List A) where
  pub up_to_step : (i : ℕ) (xs : List A) (x : A) → xs ≡ up_to f l i → x ≡ f i → set xs i x ≡ up_to f l (i + 1)
  unfolding up_to
  up_to_step i xs x e g = rw (add-one, e, g)

  pub up_to_length : (n : ℕ) → length (up_to f l n) ≡ length l
  unfolding up_to
  up_to_length zero = refl
  up_to_length (suc n) = length-set (up_to f l n) n (f n) ∙ up_to_length n

  pub up_to_at : (n i : ℕ) (d : A) → i < n → n ≤ length l → get_or (up_to f l n) i d ≡ f i
  unfolding up_to
  up_to_at zero i d h k = absurd (omega arith)
  up_to_at (suc n) i d h k =
      ⊎_elim
      (λ w. get_or-set_other (up_to f l n) n i (f n) d (λ e. omega arith) ∙ up_to_at n i d w (omega arith))
      (λ w. let e : i ≡ n = omega arith in rw e (get_or-set_same (up_to f l n) n (f n) d (omega (arith, up_to_length n))))
      (lt_or_le i n)
