-- The tables: what their entries are, and that rows made by doubling are the tables.
-- Assumes nothing.
use mathlib.Core.Path.{◌≡◌, refl, sym, ap, ap₂, ◌∙◌}
use mathlib.Core.List.{List, [], ◌∷◌, ◌++◌, map}
use Prim.Native.Nat.{ℕ, zero, suc, ◌+◌, ◌*◌, ◌/◌, ◌%◌, ◌^◌, ◌<◌, ◌≤◌}
use native.Mathlib.Nat.{add-zero, zero-add, add-suc, suc-add, one-mul, zero-lt-suc, le_of_suc-le-suc, not-suc-le-zero, mod-lt, pow-suc}
use native.Mathlib.Omega.{arith}
use lib.Dec.{lit<, lit≤}
use lib.Bits.{bit_xor, xor_shifted}
use lib.ListN.{get_or}
use Rattle.crc32.specs.Crc32.{bit_steps}
use Rattle.crc32.specs.Tables.{tabulate, entry_of, tables_of}
use Rattle.crc32.proofs.Steps.{steps_linear, steps_split}

tabulated_from : (f : ℕ → ℕ) (i n k : ℕ) → k < n → get_or (tabulate f i n) k 0 ≡ f (i + k)
tabulated_from f i zero k h = absurd (not-suc-le-zero h)
tabulated_from f i (suc n) zero h = rw add-zero
tabulated_from f i (suc n) (suc k) h = rw (add-suc, ← suc-add) (tabulated_from f (suc i) n k (le_of_suc-le-suc h))

tabulated : (f : ℕ → ℕ) (n k : ℕ) → k < n → get_or (tabulate f 0 n) k 0 ≡ f k
tabulated f n k h = rw zero-add at (tabulated_from f 0 n k h)

-- entry b of table k
pub entry_at_lem : (t : List ℕ) (k b : ℕ) → t ≡ tables_of → k < 8 → b < 256 → get_or t (256 * k + b) 0 ≡ bit_steps (8 * suc k) b
unfolding tables_of entry_of
entry_at_lem t k b e hk hb =
    let q : (256 * k + b) / 256 + 1 ≡ suc k = omega arith in
    let r : (256 * k + b) % 256 ≡ b = omega arith in
    ap (λ (l : List ℕ). get_or l (256 * k + b) 0) e ∙ tabulated entry_of 2048 (256 * k + b) (omega arith)
    ∙ ap₂ (λ (x y : ℕ). bit_steps (8 * x) y) q r

-- eight bit steps by a look-up in the first table
abbrev pub byte_step : List ℕ → ℕ → ℕ
byte_step t x = bit_xor (x / 256) (get_or t (x % 256) 0)

pub byte_step_lem : (t : List ℕ) (x : ℕ) → t ≡ tables_of → byte_step t x ≡ bit_steps 8 x
byte_step_lem t x e =
    let b = x % 256 in
    ap (bit_xor (x / 256)) (ap (λ (i : ℕ). get_or t i 0) (sym (zero-add b)) ∙ entry_at_lem t 0 b e (lit< tt) (mod-lt x (lit< tt)))
    ∙ sym (steps_split 8 x)

-- ---- the constant: bit steps are linear, so a row of 2 ^ m entries is half of it, and that half xored with one entry more

tabulate_append : (f : ℕ → ℕ) (i a b : ℕ) → tabulate f i (a + b) ≡ tabulate f i a ++ tabulate f (i + a) b
tabulate_append f i zero b = rw (zero-add, add-zero)
tabulate_append f i (suc a) b =
    let n : suc i + a ≡ i + suc a = omega arith in
    ap (tabulate f i) (suc-add a b) ∙ ap (λ (l : List ℕ). f i ∷ l) (tabulate_append f (suc i) a b)
    ∙ ap (λ (j : ℕ). f i ∷ (tabulate f (suc i) a ++ tabulate f j b)) n

same : (f h : ℕ → ℕ) (i j n : ℕ) → ((k : ℕ) → k < n → f (i + k) ≡ h (j + k)) → tabulate f i n ≡ tabulate h j n
same f h i j zero e = refl
same f h i j (suc n) e =
    let a : i + 0 ≡ i = add-zero i in
    let b : j + 0 ≡ j = add-zero j in
    ap₂ (λ (x : ℕ) (l : List ℕ). x ∷ l) (rw (a, b) at (e 0 (zero-lt-suc n)))
    (same f h (suc i) (suc j) n (λ k p.
    let c : suc i + k ≡ i + suc k = omega arith in
    let d : suc j + k ≡ j + suc k = omega arith in
    rw (c, d) (e (suc k) (omega arith))))

map_tabulate : (g f : ℕ → ℕ) (i n : ℕ) → map g (tabulate f i n) ≡ tabulate (λ (x : ℕ). g (f x)) i n
map_tabulate g f i zero = refl
map_tabulate g f i (suc n) = ap (λ (l : List ℕ). g (f i) ∷ l) (map_tabulate g f (suc i) n)

unfoldable pub doubled : (ℕ → ℕ) → ℕ → List ℕ
doubled f zero = f 0 ∷ []
doubled f (suc m) = doubled f m ++ map (bit_xor (f (2 ^ m))) (doubled f m)

doubled_all : (f : ℕ → ℕ) → ((a b : ℕ) → f (bit_xor a b) ≡ bit_xor (f a) (f b)) → (m : ℕ) → doubled f m ≡ tabulate f 0 (2 ^ m)
unfolding doubled
doubled_all f linear zero = refl
doubled_all f linear (suc m) =
    let p = 2 ^ m in
    let n : p + p ≡ 2 ^ suc m = rw pow-suc (omega arith) in
    ap (λ (l : List ℕ). l ++ map (bit_xor (f p)) l) (doubled_all f linear m)
    ∙ ap (λ (l : List ℕ). tabulate f 0 p ++ l)
    (map_tabulate (bit_xor (f p)) f 0 p
    ∙ same (λ (x : ℕ). bit_xor (f p) (f x)) f 0 p p (λ k h.
    rw zero-add (sym (linear p k) ∙ ap f (rw one-mul at (xor_shifted 1 m k h)))))
    ∙ ap (λ (i : ℕ). tabulate f 0 p ++ tabulate f i p) (sym (zero-add p))
    ∙ sym (tabulate_append f 0 p p) ∙ ap (tabulate f 0) n

-- the first k tables
unfoldable pub rows_of : ℕ → List ℕ
rows_of zero = []
rows_of (suc k) = rows_of k ++ doubled (bit_steps (8 * (k + 1))) 8

row : (k n : ℕ) → n ≤ 256 → tabulate (bit_steps (8 * (k + 1))) 0 n ≡ tabulate entry_of (256 * k) n
unfolding entry_of
row k n h =
    same (bit_steps (8 * (k + 1))) entry_of 0 (256 * k) n (λ b p.
    let q : (256 * k + b) / 256 + 1 ≡ k + 1 = omega arith in
    let r : (256 * k + b) % 256 ≡ 0 + b = omega arith in
    sym (ap₂ (λ (x y : ℕ). bit_steps (8 * x) y) q r))

rows_all : (k : ℕ) → rows_of k ≡ tabulate entry_of 0 (256 * k)
unfolding rows_of
rows_all zero = refl
rows_all (suc k) =
    let n : 256 * k + 256 ≡ 256 * suc k = omega arith in
    ap₂ (λ (a b : List ℕ). a ++ b) (rows_all k)
    (doubled_all (bit_steps (8 * (k + 1))) (steps_linear (8 * (k + 1))) 8 ∙ row k 256 (lit≤ tt))
    ∙ ap (λ (i : ℕ). tabulate entry_of 0 (256 * k) ++ tabulate entry_of i 256) (sym (zero-add (256 * k)))
    ∙ sym (tabulate_append entry_of 0 (256 * k) 256) ∙ ap (tabulate entry_of 0) n

pub rows : rows_of 8 ≡ tables_of
unfolding tables_of
rows = rows_all 8
