-- A loop over all seven that tests only what lies below r: a turn of it.
-- Assumes nothing.
use mathlib.Core.Path.{◌≡◌, refl, sym, ap, ◌∙◌}
use mathlib.Core.Bool.{Bool, true, ◌&&◌, ◌||◌, and-true}
use mathlib.Core.Logic.{⊎_elim}
use Prim.Native.Nat.{ℕ, ◌+◌, ◌≤◌, ◌<◌, min}
use lib.Dec.{leb}
use native.Mathlib.Omega.{arith}
use borrow.Author.Tests.{le-leb, lt-leb}
use Rattle.base.specs.Below.{all}
use Rattle.base.proofs.Below.{all_step}
use Rattle.base.proofs.Tests.{lt_or_le}

pub bounded_none : (p : ℕ → Bool) (r : ℕ) → true ≡ all p (min 0 r)
unfolding all
bounded_none p r =
    let z : min 0 r ≡ 0 = omega arith in
    rw z refl

module _ (p : ℕ → Bool) (r i : ℕ) (a b : Bool) (before : a ≡ all p (min i r)) where
  -- from r on nothing is tested
  pub bounded_beyond : r ≤ i → b ≡ leb r i → (a && b) ≡ all p (min (i + 1) r)
  bounded_beyond l e =
      let m : min i r ≡ r = omega arith in
      let n : min (i + 1) r ≡ r = omega arith in
      rw n (ap (λ x. a && x) (e ∙ le-leb r i l) ∙ and-true a ∙ rw m at before)

  pub bounded_within : i < r → b ≡ p i → (a && b) ≡ all p (min (i + 1) r)
  bounded_within l e =
      let m : min i r ≡ i = omega arith in
      let n : min (i + 1) r ≡ i + 1 = omega arith in
      rw n (all_step p i a b (a && b) (rw m at before) e refl)

-- both in one, as the code tests them
pub bounded_step : (p : ℕ → Bool) (r i : ℕ) (a b : Bool) → a ≡ all p (min i r) → b ≡ p i → (a && (leb r i || b)) ≡ all p (min (i + 1) r)
bounded_step p r i a b e f = ⊎_elim within beyond (lt_or_le i r)
  where
    within : i < r → (a && (leb r i || b)) ≡ all p (min (i + 1) r)
    within l = bounded_within p r i a (leb r i || b) e l (ap (λ x. x || b) (lt-leb r i l) ∙ f)

    beyond : r ≤ i → (a && (leb r i || b)) ≡ all p (min (i + 1) r)
    beyond l = let t = le-leb r i l in bounded_beyond p r i a (leb r i || b) e l (ap (λ x. x || b) t ∙ sym t)
