-- Laws of lists of refusals: lists checked one after another, and what a passed list says of its conditions.
-- Assumes nothing.
use mathlib.Core.Path.{◌≡◌, refl, sym}
use mathlib.Core.Bool.{Bool, true, false, cond}
use mathlib.Core.List.{List, [], ◌∷◌, ◌++◌}
use Prim.Native.Nat.{ℕ}
use native.Mathlib.Omega.{arith}
use lib.Dec.{eqb}
use Rattle.cluster.specs.Refusals.{Row, Verdict, pass, declined, first_of, and_then}

-- ---- lists checked one after another

pub first_of_append : (ws us : List Row) → first_of (ws ++ us) ≡ and_then (first_of ws) us
unfolding first_of and_then
first_of_append [] us = refl
first_of_append (w ∷ ws) us = go w.holds (first_of_append ws us)
  where
    go :
        (b : Bool)
        → first_of (ws ++ us) ≡ and_then (first_of ws) us
        → cond b (declined w.number w.values) (first_of (ws ++ us))
        ≡ and_then (cond b (declined w.number w.values) (first_of ws)) us
    go true e = refl
    go false e = e

pub and_then_append : (v : Verdict) (ws us : List Row) → and_then (and_then v ws) us ≡ and_then v (ws ++ us)
unfolding and_then
and_then_append pass ws us = sym (first_of_append ws us)
and_then_append (declined n values) ws us = refl

-- ---- a condition is looked up by its number

abbrev pub condition_of : ℕ → List Row → Bool
condition_of n [] = false
condition_of n (w ∷ ws) = cond (eqb w.number n) w.holds (condition_of n ws)

-- no condition of a list that passed holds
pub passed : (ws : List Row) → first_of ws ≡ pass → (n : ℕ) → condition_of n ws ≡ false
unfolding first_of
passed [] e n = refl
passed (w ∷ ws) e n = go w.holds refl e (λ q. passed ws q n)
  where
    pick : (b : Bool) → w.holds ≡ false → condition_of n ws ≡ false → cond b w.holds (condition_of n ws) ≡ false
    pick true q r = q
    pick false q r = r

    go :
        (b : Bool)
        → w.holds ≡ b
        → cond b (declined w.number w.values) (first_of ws) ≡ pass
        → (first_of ws ≡ pass → condition_of n ws ≡ false)
        → condition_of n (w ∷ ws) ≡ false
    go true q e more = let z : ◌≡◌ {A = ℕ} 0 1 = cc in absurd (omega arith)
    go false q e more = pick (eqb w.number n) q (more e)
