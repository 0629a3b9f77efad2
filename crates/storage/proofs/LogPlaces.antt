-- The places of a log are those of its medium.
-- Assumes nothing.
use mathlib.Core.Path.{◌≡◌, refl, sym, ap, ◌∙◌}
use mathlib.Core.Bool.{Bool, true, false, cond}
use mathlib.Core.List.{List, [], ◌∷◌}
use Prim.Native.Nat.{ℕ, zero, suc, ◌+◌, ◌-◌, ◌≤◌, ◌<◌}
use native.Mathlib.Omega.{arith}
use lib.ListN.{length, get_or}
use Rattle.storage.specs.Places.{valid_place}
use Rattle.storage.specs.Log.{place_at, places_from, run_by, log_of, mark_of}
use Rattle.storage.proofs.Scan.{mark_le}
use Rattle.storage.proofs.Blocks.{get_d_places}

pub run_by_at : (valid : ℕ → List ℕ → Bool) (n i : ℕ) (ps : List (List ℕ)) → i < length (run_by valid n ps) → get_or (run_by valid n ps) i [] ≡ get_or ps i []
unfolding run_by
run_by_at valid n i [] h = absurd (omega arith)
run_by_at valid n i (p ∷ ps) h = go (valid n p) i h (λ j l. run_by_at valid (n + 1) j ps l)
  where
    go : (b : Bool) (i : ℕ) → i < length (cond b (p ∷ run_by valid (n + 1) ps) [])
        → ((j : ℕ) → j < length (run_by valid (n + 1) ps) → get_or (run_by valid (n + 1) ps) j [] ≡ get_or ps j [])
        → get_or (cond b (p ∷ run_by valid (n + 1) ps) []) i [] ≡ get_or (p ∷ ps) i []
    go true zero h f = refl
    go true (suc i) h f = f i (omega arith)
    go false i h f = absurd (omega arith)

-- place n of a medium, where it is in the log
pub log_place : (N : ℕ) (m : List ℕ) (n : ℕ) → 1 ≤ n → n ≤ mark_of N m → place_at n m ≡ get_or (log_of N m) (n - 1) []
unfolding log_of mark_of
log_place N m n lo hi =
    let q : 1 + (n - 1) ≡ n = omega arith in
    sym (run_by_at valid_place 1 (n - 1) (places_from N 1 m) (omega arith)
    ∙ get_d_places N 1 (n - 1) m (omega (arith, mark_le N m))
    ∙ ap (λ (k : ℕ). place_at k m) q)
