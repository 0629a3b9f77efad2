-- Places one behind the other: how the number of valid ones goes on, place by place and group by group, until it is the mark.
-- Assumes nothing.
use mathlib.Core.Path.{◌≡◌, refl, sym, ap, ap₂, ◌∙◌}
use mathlib.Core.Bool.{Bool, true, false}
use mathlib.Core.List.{List, ◌∷◌}
use Prim.Native.Nat.{ℕ, zero, suc, ◌+◌, ◌-◌, ◌*◌, ◌<◌, ◌≤◌}
use native.Mathlib.Omega.{arith}
use lib.ListN.{length, take, drop}
use lib.Seq.{take-take, drop-drop}
use Rattle.octets.specs.Octets.{part}
use Rattle.octets.proofs.Laws.{take_drop}
use Rattle.lanes.specs.Lanes.{lanes}
use Rattle.storage.specs.Sizes.{slots_size, place_size}
use Rattle.storage.specs.Places.{valid_place}
use Rattle.storage.specs.Log.{place_at, places_from, run, run_by, mark_of}
use Rattle.scan.specs.Rows.{rows, valid_rows}
use Rattle.storage.proofs.Scan.{rest, run_le, mark_known}

-- ---- place by place

row_next : (k n : ℕ) (s : List ℕ) → valid_place (n + 1) (take place_size s) ≡ true → valid_rows (suc k) n s ≡ suc (valid_rows k (n + 1) (drop place_size s))
unfolding valid_rows rows run_by
row_next k n s v = rw v refl

row_stop : (k n : ℕ) (s : List ℕ) → valid_place (n + 1) (take place_size s) ≡ false → valid_rows (suc k) n s ≡ 0
unfolding valid_rows rows run_by
row_stop k n s v = rw v refl

row_none : (n : ℕ) (s : List ℕ) → valid_rows 0 n s ≡ 0
unfolding valid_rows rows run_by
row_none n s = refl

pub turn_start : (N n : ℕ) (s : List ℕ) → valid_rows N n s ≡ 0 + valid_rows (N - 0) (n + 0) (drop 0 s)
turn_start N n s =
    let z : N - 0 ≡ N = omega arith in
    let w : n + 0 ≡ n = omega arith in
    rw (z, w) (omega arith)

-- the turns of a loop over N places, of which j are behind it and the next begins at a
module _ (N n j a : ℕ) (s : List ℕ) where
  pub turn_next : j < N → valid_place (n + j + 1) (take place_size (drop a s)) ≡ true
      → j + valid_rows (N - j) (n + j) (drop a s) ≡ j + 1 + valid_rows (N - (j + 1)) (n + (j + 1)) (drop (a + place_size) s)
  turn_next h v =
      let e : N - j ≡ suc (N - (j + 1)) = omega arith in
      let i : n + j + 1 ≡ n + (j + 1) = omega arith in
      let r = valid_rows (N - (j + 1)) (n + j + 1) (drop place_size (drop a s)) in
      let t : j + suc r ≡ j + 1 + r = omega arith in
      ap (λ (k : ℕ). j + valid_rows k (n + j) (drop a s)) e ∙ ap (λ (k : ℕ). j + k) (row_next (N - (j + 1)) (n + j) (drop a s) v) ∙ t
      ∙ ap₂ (λ (k : ℕ) (l : List ℕ). j + 1 + valid_rows (N - (j + 1)) k l) i (drop-drop place_size a s)

  pub turn_stop : j < N → valid_place (n + j + 1) (take place_size (drop a s)) ≡ false → j + valid_rows (N - j) (n + j) (drop a s) ≡ j
  turn_stop h v =
      let e : N - j ≡ suc (N - (j + 1)) = omega arith in
      ap (λ (k : ℕ). j + valid_rows k (n + j) (drop a s)) e ∙ ap (λ (k : ℕ). j + k) (row_stop (N - (j + 1)) (n + j) (drop a s) v) ∙ omega arith

  pub turn_end : N ≤ j → j + valid_rows (N - j) (n + j) (drop a s) ≡ j
  turn_end h =
      let e : N - j ≡ 0 = omega arith in
      ap (λ (k : ℕ). j + valid_rows k (n + j) (drop a s)) e ∙ ap (λ (k : ℕ). j + k) (row_none (n + j) (drop a s)) ∙ omega arith

-- ---- group by group

one_more : (g r : ℕ) → suc (g + r) ≡ suc g + r
one_more g r = omega arith

-- all places of a group are valid: the others go on behind it
group_next : (g k n : ℕ) (s : List ℕ) → g ≤ k → valid_rows g n s ≡ g → valid_rows k n s ≡ g + valid_rows (k - g) (n + g) (drop (place_size * g) s)
group_next zero k n s h e = turn_start k n s
group_next (suc g) zero n s h e = absurd (omega arith)
group_next (suc g) (suc k) n s h e = go (valid_place (n + 1) (take place_size s)) refl (group_next g k (n + 1) (drop place_size s) (omega arith))
  where
    go : (b : Bool) → valid_place (n + 1) (take place_size s) ≡ b
        → (valid_rows g (n + 1) (drop place_size s) ≡ g → valid_rows k (n + 1) (drop place_size s) ≡ g + valid_rows (k - g) (n + 1 + g) (drop (place_size * g) (drop place_size s)))
        → valid_rows (suc k) n s ≡ suc g + valid_rows (suc k - suc g) (n + suc g) (drop (place_size * suc g) s)
    go true v ih =
        let d : k - g ≡ suc k - suc g = omega arith in
        let i : n + 1 + g ≡ n + suc g = omega arith in
        let o : place_size + place_size * g ≡ place_size * suc g = omega arith in
        row_next k n s v
        ∙ ap suc (ih (omega (arith, row_next g n s v, e))) ∙ one_more g (valid_rows (k - g) (n + 1 + g) (drop (place_size * g) (drop place_size s)))
        ∙ ap (λ (l : List ℕ). suc g + valid_rows (k - g) (n + 1 + g) l) (drop-drop (place_size * g) place_size s)
        ∙ ap₂ (λ (x y : ℕ). suc g + valid_rows x y (drop (place_size + place_size * g) s)) d i
        ∙ ap (λ (x : ℕ). suc g + valid_rows (suc k - suc g) (n + suc g) (drop x s)) o
    go false v ih = absurd (omega (arith, row_stop g n s v, e))

-- one of them is not: the count ends there
group_stop : (g k n : ℕ) (s : List ℕ) → g ≤ k → valid_rows g n s < g → valid_rows k n s ≡ valid_rows g n s
group_stop zero k n s h e = absurd (omega arith)
group_stop (suc g) zero n s h e = absurd (omega arith)
group_stop (suc g) (suc k) n s h e = go (valid_place (n + 1) (take place_size s)) refl (group_stop g k (n + 1) (drop place_size s) (omega arith))
  where
    go : (b : Bool) → valid_place (n + 1) (take place_size s) ≡ b
        → (valid_rows g (n + 1) (drop place_size s) < g → valid_rows k (n + 1) (drop place_size s) ≡ valid_rows g (n + 1) (drop place_size s))
        → valid_rows (suc k) n s ≡ valid_rows (suc g) n s
    go true v ih =
        row_next k n s v
        ∙ ap suc (ih (omega (arith, row_next g n s v, e)))
        ∙ sym (row_next g n s v)
    go false v ih = row_stop k n s v ∙ sym (row_stop g n s v)

-- ---- a medium's places

-- bytes behind the rows do not count
rows_front : (k l : ℕ) (s : List ℕ) → place_size * k ≤ l → rows k (take l s) ≡ rows k s
unfolding rows
rows_front zero l s h = refl
rows_front (suc k) l s h =
    let e : l ≡ place_size + (l - place_size) = omega arith in
    ap₂ (λ (p : List ℕ) (q : List (List ℕ)). p ∷ q) (take-take place_size l s (omega arith))
    (ap (λ (x : ℕ). rows k (drop place_size (take x s))) e
    ∙ ap (rows k) (sym (take_drop place_size (l - place_size) s))
    ∙ rows_front k (l - place_size) (drop place_size s) (omega arith))

valid_front : (k n l : ℕ) (s : List ℕ) → place_size * k ≤ l → valid_rows k n (take l s) ≡ valid_rows k n s
unfolding valid_rows
valid_front k n l s h = ap (λ (ps : List (List ℕ)). length (run (n + 1) ps)) (rows_front k l s h)

length_rows : (k : ℕ) (s : List ℕ) → length (rows k s) ≡ k
unfolding rows
length_rows zero s = refl
length_rows (suc k) s = ap suc (length_rows k (drop place_size s))

valid_le : (k n : ℕ) (s : List ℕ) → valid_rows k n s ≤ k
unfolding valid_rows
valid_le k n s = omega (arith, run_le (n + 1) (rows k s), length_rows k s)

places_rows : (k n : ℕ) (m : List ℕ) → places_from k (n + 1) m ≡ rows k (drop (slots_size + place_size * n) m)
unfolding places_from rows place_at
places_rows zero n m = refl
places_rows (suc k) n m =
    let o : slots_size + place_size * (n + 1 - 1) ≡ slots_size + place_size * n = omega arith in
    let q : slots_size + place_size * (n + 1) ≡ slots_size + place_size * n + place_size = omega arith in
    ap₂ (λ (p : List ℕ) (ps : List (List ℕ)). p ∷ ps) (ap (λ (x : ℕ). part x place_size m) o)
    (places_rows k (n + 1) m ∙ ap (λ (x : ℕ). rows k (drop x m)) q
    ∙ ap (rows k) (sym (drop-drop place_size (slots_size + place_size * n) m)))

-- what is left of a log behind place n
rest_rows : (N n : ℕ) (m : List ℕ) → rest N n m ≡ valid_rows (N - n) n (drop (slots_size + place_size * n) m)
unfolding rest valid_rows
rest_rows N n m = ap (λ (ps : List (List ℕ)). length (run (n + 1) ps)) (places_rows (N - n) n m)

-- ---- the scan for a mark: n places are known to be valid, and those behind them begin at a

pub scan_start : (N k : ℕ) (m : List ℕ) → k ≤ mark_of N m → mark_of N m ≡ k + valid_rows (N - k) k (drop (slots_size + place_size * k) m)
scan_start N k m h = mark_known N k m h ∙ ap (λ (r : ℕ). k + r) (rest_rows N k m)

module _ (N n a l k : ℕ) (m : List ℕ) (left : mark_of N m ≡ n + valid_rows (N - n) n (drop a m)) where
  -- a group of them, in a part that holds it
  module _ (h : lanes ≤ N - n) (f : place_size * lanes ≤ l) (e : k ≡ valid_rows lanes n (take l (drop a m))) where
    counted : valid_rows lanes n (drop a m) ≡ k
    counted = sym (e ∙ valid_front lanes n l (drop a m) f)

    pub scan_stop : k < lanes → n + k ≡ mark_of N m
    scan_stop s = sym (left ∙ ap (λ (r : ℕ). n + r) (group_stop lanes (N - n) n (drop a m) h (omega (arith, counted)) ∙ counted))

    pub scan_next : lanes ≤ k → mark_of N m ≡ n + lanes + valid_rows (N - (n + lanes)) (n + lanes) (drop (a + place_size * lanes) m)
    scan_next g =
        let r = valid_rows (N - n - lanes) (n + lanes) (drop (place_size * lanes) (drop a m)) in
        let t : n + (lanes + r) ≡ n + lanes + r = omega arith in
        let d : N - n - lanes ≡ N - (n + lanes) = omega arith in
        left
        ∙ ap (λ (x : ℕ). n + x) (group_next lanes (N - n) n (drop a m) h (omega (arith, counted, g, valid_le lanes n (drop a m)))) ∙ t
        ∙ ap₂ (λ (x : ℕ) (y : List ℕ). n + lanes + valid_rows x (n + lanes) y) d (drop-drop (place_size * lanes) a m)

  -- all that is left, in a part that holds it
  pub scan_end : place_size * (N - n) ≤ l → k ≡ valid_rows (N - n) n (take l (drop a m)) → n + k ≡ mark_of N m
  scan_end f e = sym (left ∙ ap (λ (r : ℕ). n + r) (sym (e ∙ valid_front (N - n) n l (drop a m) f)))
