-- The scan for the mark, one turn at a time: from place n on it finds what is left of the log.
-- Assumes nothing.
use mathlib.Core.Path.{◌≡◌, refl, ap, ap₂, ◌∙◌}
use mathlib.Core.Bool.{Bool, true, false, cond}
use mathlib.Core.List.{List, [], ◌∷◌}
use Prim.Native.Nat.{ℕ, zero, suc, ◌+◌, ◌-◌, ◌*◌, ◌<◌, ◌≤◌, zero-le, suc-le-suc}
use native.Mathlib.Omega.{arith}
use lib.ListN.{length, take, drop}
use Rattle.storage.specs.Sizes.{slots_size, place_size}
use Rattle.storage.specs.Places.{valid_place}
use Rattle.storage.specs.Log.{place_at, places_from, run, run_by, log_of, mark_of}

pub length_places : (k n : ℕ) (m : List ℕ) → length (places_from k n m) ≡ k
unfolding places_from
length_places zero n m = refl
length_places (suc k) n m = ap suc (length_places k (n + 1) m)

pub run_by_le : (valid : ℕ → List ℕ → Bool) (n : ℕ) (ps : List (List ℕ)) → length (run_by valid n ps) ≤ length ps
unfolding run_by
run_by_le valid n [] = zero-le
run_by_le valid n (p ∷ ps) = go (valid n p) (run_by_le valid (n + 1) ps)
  where
    go : (b : Bool) → length (run_by valid (n + 1) ps) ≤ length ps → length (cond b (p ∷ run_by valid (n + 1) ps) []) ≤ suc (length ps)
    go true h = suc-le-suc h
    go false h = zero-le

pub run_le : (n : ℕ) (ps : List (List ℕ)) → length (run n ps) ≤ length ps
run_le n ps = run_by_le valid_place n ps

pub mark_le : (N : ℕ) (m : List ℕ) → mark_of N m ≤ N
unfolding mark_of log_of
mark_le N m = omega (arith, run_le 1 (places_from N 1 m), length_places N 1 m)

-- how many valid places follow place n
unfoldable pub rest : ℕ → ℕ → List ℕ → ℕ
rest N n m = length (run (n + 1) (places_from (N - n) (n + 1) m))

more : (N n : ℕ) → n < N → N - n ≡ suc (N - (n + 1))
more N n h = omega arith

mark_start : (N : ℕ) (m : List ℕ) → mark_of N m ≡ 0 + rest N 0 m
unfolding mark_of log_of rest
mark_start N m = let e : N ≡ N - 0 = omega arith in ap (λ (k : ℕ). length (run 1 (places_from k 1 m))) e ∙ omega arith

pub mark_next : (N n : ℕ) (m : List ℕ) → n < N → valid_place (n + 1) (place_at (n + 1) m) ≡ true → n + rest N n m ≡ (n + 1) + rest N (n + 1) m
unfolding rest run_by places_from
mark_next N n m h v = rw (more N n h, v) (omega arith)

pub mark_stop : (N n : ℕ) (m : List ℕ) → n < N → valid_place (n + 1) (place_at (n + 1) m) ≡ false → n + rest N n m ≡ n
unfolding rest run_by places_from
mark_stop N n m h v = rw (more N n h, v) (omega arith)

-- one more place of a log that goes on
onward : (N k : ℕ) (m : List ℕ) → mark_of N m ≡ k + rest N k m → suc k ≤ mark_of N m → mark_of N m ≡ suc k + rest N (suc k) m
onward N k m e h = go (valid_place (k + 1) (place_at (k + 1) m)) refl
  where
    inside : k < N
    inside = omega (arith, h, mark_le N m)

    next : k + 1 ≡ suc k
    next = omega arith

    go : (b : Bool) → valid_place (k + 1) (place_at (k + 1) m) ≡ b → mark_of N m ≡ suc k + rest N (suc k) m
    go true v = e ∙ mark_next N k m inside v ∙ ap (λ (i : ℕ). i + rest N i m) next
    go false v = absurd (omega (arith, e, h, mark_stop N k m inside v))

-- a scan may start behind places that are known to be in the log
pub mark_known : (N k : ℕ) (m : List ℕ) → k ≤ mark_of N m → mark_of N m ≡ k + rest N k m
mark_known N zero m h = mark_start N m
mark_known N (suc k) m h = onward N k m (mark_known N k m (omega arith)) h

-- every place of the log is valid, and the one behind it is not
pub log_valid : (N k : ℕ) (m : List ℕ) → k < mark_of N m → valid_place (k + 1) (place_at (k + 1) m) ≡ true
log_valid N k m h = go (valid_place (k + 1) (place_at (k + 1) m)) refl
  where
    go : (b : Bool) → valid_place (k + 1) (place_at (k + 1) m) ≡ b → b ≡ true
    go true v = refl
    go false v = absurd (omega (arith, h, mark_known N k m (omega arith), mark_stop N k m (omega (arith, mark_le N m)) v))

pub log_ends : (N : ℕ) (m : List ℕ) → mark_of N m < N → valid_place (mark_of N m + 1) (place_at (mark_of N m + 1) m) ≡ false
log_ends N m h = go (valid_place (mark_of N m + 1) (place_at (mark_of N m + 1) m)) refl
  where
    n : ℕ
    n = mark_of N m

    go : (b : Bool) → valid_place (mark_of N m + 1) (place_at (mark_of N m + 1) m) ≡ b → b ≡ false
    go true v =
        let e = mark_known N (mark_of N m) m (omega arith) in
        absurd (omega (arith, e, mark_next N (mark_of N m) m h v))
    go false v = refl

-- the code's place, from the offset that it keeps
pub place_here : (n a : ℕ) (m : List ℕ) → a ≡ slots_size + place_size * n → take (a + place_size - a) (drop a m) ≡ place_at (n + 1) m
unfolding place_at
place_here n a m e =
    let q : a + place_size - a ≡ place_size = omega arith in
    let w : a ≡ slots_size + place_size * (n + 1 - 1) = omega arith in
    ap₂ (λ (k o : ℕ). take k (drop o m)) q w
