-- A number t at the top of its width, so that one more is m: how a test for it reads, over the width.
-- Assumes nothing.
use mathlib.Core.Path.{◌≡◌, sym, ◌∙◌}
use mathlib.Core.Bool.{true, false}
use Prim.Native.Nat.{ℕ, ◌+◌}
use native.Mathlib.Omega.{arith}
use native.Mathlib.Decide.{ℕ_discrete}
use lib.Dec.{eqb}
use borrow.Author.Tests.{eq-eqb, ne_eqb}

module _ (t m : ℕ) (e : t + 1 ≡ m) (n : ℕ) where
  pub at_top : n ≡ t → eqb (n + 1) m ≡ true
  at_top h = eq-eqb (n + 1) m (omega arith)

  pub below_top : (n ≡ t → ⊥) → eqb (n + 1) m ≡ false
  below_top h = ne_eqb (n + 1) m (λ x. h (omega arith))

  pub top_is : eqb n t ≡ eqb (n + 1) m
  top_is = go (ℕ_discrete n t)
    where
      go : Dec (n ≡ t) → eqb n t ≡ eqb (n + 1) m
      go (yes h) = eq-eqb n t h ∙ sym (at_top h)
      go (no h) = ne_eqb n t h ∙ sym (below_top h)
