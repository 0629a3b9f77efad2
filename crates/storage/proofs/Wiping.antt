-- The truncation's turn.
-- Assumes nothing.
use mathlib.Core.Path.{◌≡◌, ap, ◌∙◌}
use mathlib.Core.List.{List, ◌∷◌}
use Prim.Native.Nat.{ℕ, suc, ◌+◌, ◌-◌, ◌<◌, ◌≤◌}
use native.Mathlib.Omega.{arith}
use Rattle.fate.specs.declared.Fate.{Fate}
use Rattle.fate.specs.Fates.{Write, leave}
use Rattle.fate.specs.Numbered.{effect_of, after_from}
use Rattle.storage.specs.Places.{wiped}
use Rattle.storage.specs.Operations.{place_write, wipes}

wipes_next : (t n : ℕ) → t < n → wipes t (n - t) ≡ place_write n wiped ∷ wipes t (n - 1 - t)
unfolding wipes
wipes_next t n h =
    let q : n - t ≡ suc (n - 1 - t) = omega arith in
    let r : t + suc (n - 1 - t) ≡ n = omega arith in
    ap (wipes t) q ∙ ap (λ (i : ℕ). place_write i wiped ∷ wipes t (n - 1 - t)) r

pub wiping_next : (t n j : ℕ) (f : Fate) (g m : List ℕ) → t < n
    → after_from j f g (wipes t (n - t)) m ≡ after_from (j + 1) f g (wipes t (n - 1 - t)) (leave (effect_of f j) g (place_write n wiped) m)
unfolding after_from
wiping_next t n j f g m h = ap (λ (xs : List Write). after_from j f g xs m) (wipes_next t n h)

pub wiping_end : (t n j : ℕ) (f : Fate) (g m : List ℕ) → n ≤ t → after_from j f g (wipes t (n - t)) m ≡ m
unfolding after_from wipes
wiping_end t n j f g m h = let q : n - t ≡ 0 = omega arith in ap (λ (d : ℕ). after_from j f g (wipes t d) m) q
