-- How many reach a mark, and the majority mark: it is the highest that Q known replicas reach.
-- Assumes nothing.
use mathlib.Core.Path.{◌≡◌, refl}
use mathlib.Core.Bool.{Bool, true, false, cond, ◌&&◌}
use mathlib.Core.Logic.{◌⊎◌, inl, inr, ⊎_elim}
use Prim.Native.Nat.{ℕ, zero, suc, ◌+◌, ◌≤◌, ◌<◌}
use native.Mathlib.Omega.{arith}
use lib.Dec.{leb}
use borrow.Author.Tests.{le-leb, lt-leb, leb-true}
use Rattle.base.specs.Below.{bit, count, highest}
use Rattle.base.proofs.Tests.{lt_or_le, both}
use Rattle.base.proofs.Below.{count_mono, count_none, highest_ge, highest_ind}
use Rattle.quorum.specs.Vote.{quorum, reach, backed, majority_mark}

module _ (known : ℕ → Bool) (mark : ℕ → ℕ) where
  -- all that are known reach 0
  pub reach_zero : (r : ℕ) → reach known mark r 0 ≡ count known r
  unfolding count
  reach_zero zero = refl
  reach_zero (suc r) = rw (reach_zero r, le-leb 0 (mark r) (omega arith)) (at (known r))
    where
      at : (b : Bool) → count known r + bit (b && true) ≡ count known r + bit b
      at true = refl
      at false = refl

  pub reach_down : (r x y : ℕ) → x ≤ y → reach known mark r y ≤ reach known mark r x
  reach_down r x y l = count_mono _ _ r (λ i m. at (known i) i)
    where
      at : (b : Bool) (i : ℕ) → bit (b && leb y (mark i)) ≤ bit (b && leb x (mark i))
      at false i = omega arith
      at true i =
          ⊎_elim
          (λ w. rw (lt-leb y (mark i) w) (omega arith))
          (λ w. rw (le-leb y (mark i) w, le-leb x (mark i) (omega arith)) (omega arith))
          (lt_or_le (mark i) y)

  pub reach_none : (r x : ℕ) → ((i : ℕ) → i < r → known i ≡ true → mark i < x) → reach known mark r x ≡ 0
  reach_none r x h = count_none _ r (λ i l. at i l (known i) refl)
    where
      at : (i : ℕ) → i < r → (b : Bool) → known i ≡ b → (known i && leb x (mark i)) ≡ false
      at i l true e = rw (e, lt-leb x (mark i) (h i l e))
      at i l false e = rw e

  -- a known replica below r has the mark x
  abbrev Has : ℕ → ℕ → Type 0
  Has x r = (i : ℕ) × (i < r) × (known i ≡ true) × (mark i ≡ x)

  -- or as many reach x + 1 as x
  reach_step : (x r : ℕ) → Has x r ⊎ (reach known mark r x ≤ reach known mark r (suc x))
  unfolding count
  reach_step x zero = inr (omega arith)
  reach_step x (suc r) =
      ⊎_elim (λ (w : Has x r). inl (w.0, omega arith, w.2, w.3)) (here (known r) refl) (reach_step x r)
    where
      at : (b : Bool) → known r ≡ b → bit (b && leb x (mark r)) ≤ bit (b && leb (suc x) (mark r)) → reach known mark r x ≤ reach known mark r (suc x) → reach known mark r x + bit (known r && leb x (mark r)) ≤ reach known mark r (suc x) + bit (known r && leb (suc x) (mark r))
      at b e s l = rw e (omega arith)

      here : (b : Bool) → known r ≡ b → reach known mark r x ≤ reach known mark r (suc x) → Has x (suc r) ⊎ (reach known mark r x + bit (known r && leb x (mark r)) ≤ reach known mark r (suc x) + bit (known r && leb (suc x) (mark r)))
      here false e l = inr (at false e (omega arith) l)
      here true e l =
          ⊎_elim
          (λ (w : x < mark r). inr (at true e (rw (le-leb x (mark r) (omega arith), le-leb (suc x) (mark r) w) (omega arith)) l))
          (λ (w : mark r ≤ x).
          ⊎_elim
          (λ v. inr (at true e (rw (lt-leb x (mark r) v) (omega arith)) l))
          (λ v. inl (r, omega arith, e, omega arith))
          (lt_or_le (mark r) x))
          (lt_or_le x (mark r))

  module _ (r : ℕ) where
    backed_at : (i : ℕ) → known i ≡ true → quorum r ≤ reach known mark r (mark i) → backed known mark r i ≡ mark i
    unfolding backed
    backed_at i e l = rw (e, le-leb (quorum r) (reach known mark r (mark i)) l)

    -- from x, which Q reach, up to a mark that one of them has
    climb : (t x : ℕ) → highest mark r < x + t → 1 ≤ quorum r → quorum r ≤ reach known mark r x → x ≤ majority_mark known mark r
    unfolding majority_mark
    climb zero x hb one hq =
        absurd (omega (arith, reach_none r x (λ i l e. omega (arith, highest_ge mark r i l))))
    climb (suc t) x hb one hq =
        let up = climb t (suc x) (omega arith) one in
        ⊎_elim
        (λ w.
        let e : mark w.0 ≡ x = w.3 in
        let b : backed known mark r w.0 ≡ mark w.0 = backed_at w.0 w.2 (rw e hq) in
        omega (arith, highest_ge (backed known mark r) r w.0 w.1))
        (λ l. omega (arith, up (omega arith)))
        (reach_step x r)

    -- no mark above it is reached by Q
    pub majority_above : (x : ℕ) → 1 ≤ quorum r → quorum r ≤ reach known mark r x → x ≤ majority_mark known mark r
    majority_above x one hq = climb (suc (highest mark r)) x (omega arith) one hq

    -- Q reach it, where Q are known
    pub majority_reached : quorum r ≤ count known r → quorum r ≤ reach known mark r (majority_mark known mark r)
    unfolding majority_mark backed
    majority_reached k =
        highest_ind (λ x. quorum r ≤ reach known mark r x) (backed known mark r) r zeros
        (λ i l. at i (known i && leb (quorum r) (reach known mark r (mark i))) refl)
      where
        zeros : quorum r ≤ reach known mark r 0
        zeros = rw (reach_zero r) k

        at : (i : ℕ) (b : Bool) → (known i && leb (quorum r) (reach known mark r (mark i))) ≡ b → quorum r ≤ reach known mark r (cond (known i && leb (quorum r) (reach known mark r (mark i))) (mark i) 0)
        at i true e =
            rw e (leb-true (quorum r) (reach known mark r (mark i)) (both (known i) (leb (quorum r) (reach known mark r (mark i))) e).1)
        at i false e = rw e zeros

    -- the one mark that Q reach, with fewer beyond it
    pub majority_is : (d : ℕ) → 1 ≤ quorum r → quorum r ≤ reach known mark r d → reach known mark r (suc d) < quorum r → majority_mark known mark r ≡ d
    majority_is d one hq hd =
        let m = majority_mark known mark r in
        let low : d ≤ m = majority_above d one hq in
        let up : quorum r ≤ reach known mark r m = majority_reached (omega (arith, reach_zero r, reach_down r 0 d (omega arith))) in
        ⊎_elim (λ w. absurd (omega (arith, reach_down r (suc d) m w))) (λ w. omega arith) (lt_or_le d m)
