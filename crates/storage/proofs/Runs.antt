-- The run of valid places at the front of a list of places, after one place changed.
-- Assumes nothing.
use mathlib.Core.Path.{◌≡◌, refl, sym, ap, ◌∙◌}
use mathlib.Core.Bool.{Bool, true, false, cond}
use mathlib.Core.List.{List, [], ◌∷◌, ◌++◌}
use Prim.Native.Nat.{ℕ, zero, suc, ◌+◌, ◌≤◌, ◌<◌}
use native.Mathlib.Nat.{add-zero, le_of_suc-le-suc, not-suc-le-zero}
use native.Mathlib.Omega.{arith}
use native.Mathlib.Decide.{ℕ_discrete}
use lib.ListN.{length, get_or, take, set, length-set, length-append}
use lib.Seq.{get_or-set_same, get_or-set_other, length-take-le}
use Rattle.storage.specs.Places.{valid_place}
use Rattle.storage.specs.Log.{run, run_by}

shift : (n i : ℕ) → n + suc i ≡ n + 1 + i
shift n i = omega arith

-- no place from the end of the run on is valid
abbrev pub Clean : ℕ → List (List ℕ) → Type 0
Clean n ps = (i : ℕ) → length (run n ps) ≤ i → i < length ps → valid_place (n + i) (get_or ps i []) ≡ false

run_true : (n : ℕ) (p : List ℕ) (ps : List (List ℕ)) → valid_place n p ≡ true → run n (p ∷ ps) ≡ p ∷ run (n + 1) ps
unfolding run_by
run_true n p ps v = ap (λ (b : Bool). cond b (p ∷ run (n + 1) ps) []) v

run_false : (n : ℕ) (p : List ℕ) (ps : List (List ℕ)) → valid_place n p ≡ false → run n (p ∷ ps) ≡ []
unfolding run_by
run_false n p ps v = ap (λ (b : Bool). cond b (p ∷ run (n + 1) ps) []) v

-- the first place of a run that is not empty is valid
run_first : (n i : ℕ) (p : List ℕ) (ps : List (List ℕ)) → suc i ≤ length (run n (p ∷ ps)) → (valid_place n p ≡ true) × (i ≤ length (run (n + 1) ps))
unfolding run_by
run_first n i p ps h = go (valid_place n p) h
  where
    go : (b : Bool) → suc i ≤ length (cond b (p ∷ run (n + 1) ps) []) → (b ≡ true) × (i ≤ length (run (n + 1) ps))
    go true k = (refl, le_of_suc-le-suc k)
    go false k = absurd (not-suc-le-zero k)

-- a place within the run, or just behind it, that is not valid afterwards ends the run
pub run_cut : (n i : ℕ) (ps : List (List ℕ)) (b : List ℕ) → i ≤ length (run n ps) → valid_place (n + i) b ≡ false → run n (set ps i b) ≡ take i (run n ps)
unfolding run_by
run_cut n zero [] b h v = refl
run_cut n (suc i) [] b h v = refl
run_cut n zero (p ∷ ps) b h v = run_false n b ps (ap (λ (k : ℕ). valid_place k b) (sym (add-zero n)) ∙ v)
run_cut n (suc i) (p ∷ ps) b h v =
    let f = run_first n i p ps h in
    run_true n p (set ps i b) f.0
    ∙ ap (λ (r : List (List ℕ)). p ∷ r) (run_cut (n + 1) i ps b f.1 (ap (λ (k : ℕ). valid_place k b) (sym (shift n i)) ∙ v))
    ∙ sym (ap (take (suc i)) (run_true n p ps f.0))

-- where nothing is valid at the front, the run is empty
pub run_none : (n : ℕ) (ps : List (List ℕ)) → (0 < length ps → valid_place n (get_or ps 0 []) ≡ false) → run n ps ≡ []
unfolding run_by
run_none n [] h = refl
run_none n (p ∷ ps) h = run_false n p ps (h (omega arith))

nothing : (ps : List (List ℕ)) → 0 ≡ length ps → ps ≡ []
nothing [] e = refl
nothing (p ∷ ps) e = absurd (omega arith)

-- a place just behind the run that is valid afterwards makes the run longer by one, where the place behind it is not valid
pub run_more : (n i : ℕ) (ps : List (List ℕ)) (b : List ℕ) → i ≡ length (run n ps) → i < length ps → valid_place (n + i) b ≡ true
    → (suc i < length ps → valid_place (n + suc i) (get_or ps (suc i) []) ≡ false) → run n (set ps i b) ≡ run n ps ++ (b ∷ [])
run_more n i [] b e h v z = absurd (not-suc-le-zero h)
run_more n zero (p ∷ ps) b e h v z =
    run_true n b ps (ap (λ (k : ℕ). valid_place k b) (sym (add-zero n)) ∙ v)
    ∙ ap (λ (r : List (List ℕ)). b ∷ r) (run_none (n + 1) ps (λ l. z (omega arith)))
    ∙ sym (ap (λ (r : List (List ℕ)). r ++ (b ∷ [])) (nothing (run n (p ∷ ps)) e))
run_more n (suc i) (p ∷ ps) b e h v z =
    let f = run_first n i p ps (omega (arith, e)) in
    let r = run_true n p ps f.0 in
    let l : i ≡ length (run (n + 1) ps) = omega (arith, e, ap length r) in
    run_true n p (set ps i b) f.0
    ∙ ap (λ (q : List (List ℕ)). p ∷ q)
    (run_more (n + 1) i ps b l (omega arith) (ap (λ (k : ℕ). valid_place k b) (sym (shift n i)) ∙ v)
    (λ k. ap (λ (j : ℕ). valid_place j (get_or ps (suc i) [])) (sym (shift n (suc i))) ∙ z (omega arith)))
    ∙ sym (ap (λ (q : List (List ℕ)). q ++ (b ∷ [])) r)

-- `Clean` is kept where the place that changed is not valid and lies at the end of the run or just behind it
pub clean_cut : (n i : ℕ) (ps : List (List ℕ)) (b : List ℕ) → i ≤ length (run n ps) → length (run n ps) ≤ i + 1 → valid_place (n + i) b ≡ false → Clean n ps → Clean n (set ps i b)
clean_cut n i ps b h k v c j hj lj = go (ℕ_discrete j i)
  where
    lengths : length (run n (set ps i b)) ≡ i
    lengths = ap length (run_cut n i ps b h v) ∙ length-take-le i (run n ps) h

    inside : j < length ps
    inside = omega (arith, length-set ps i b, lj)

    go : Dec (j ≡ i) → valid_place (n + j) (get_or (set ps i b) j []) ≡ false
    go (yes e) = ap (λ (x : ℕ). valid_place (n + x) (get_or (set ps i b) x [])) e ∙ ap (valid_place (n + i)) (get_or-set_same ps i b [] (omega (arith, e, inside))) ∙ v
    go (no ne) = ap (valid_place (n + j)) (get_or-set_other ps i j b [] ne) ∙ c j (omega (arith, lengths, hj, ne, k)) inside

-- and where it makes the run longer
pub clean_more : (n i : ℕ) (ps : List (List ℕ)) (b : List ℕ) → i ≡ length (run n ps) → i < length ps → valid_place (n + i) b ≡ true → Clean n ps → Clean n (set ps i b)
clean_more n i ps b e h v c j hj lj =
    let m = run_more n i ps b e h v (λ l. c (suc i) (omega (arith, e)) l) in
    let lengths : length (run n (set ps i b)) ≡ i + 1 = ap length m ∙ length-append (run n ps) (b ∷ []) ∙ omega (arith, e) in
    let inside : j < length ps = omega (arith, length-set ps i b, lj) in
    ap (valid_place (n + j)) (get_or-set_other ps i j b [] (omega (arith, lengths, hj))) ∙ c j (omega (arith, e, lengths, hj)) inside
