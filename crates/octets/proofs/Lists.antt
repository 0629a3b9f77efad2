-- Turns of loops over lists, at the code's i + 1 and i - 1.
-- Assumes nothing.
use mathlib.Core.Path.{◌≡◌, refl, sym, ap, ap₂, ◌∙◌}
use mathlib.Core.List.{List, [], ◌∷◌, ◌++◌, append_assoc}
use mathlib.Core.Bool.{Bool, true, false, ◌&&◌}
use Prim.Native.Nat.{ℕ, zero, suc, ◌+◌, ◌-◌, ◌*◌, ◌/◌, ◌%◌, ◌^◌, ◌<◌, ◌≤◌}
use native.Mathlib.Nat.{le_refl, lt_of_lt_of_le, not-suc-le-zero, pow-suc, pow-le-pow_right}
use native.Mathlib.Numerals.{add-one}
use native.Mathlib.Omega.{arith}
use lib.Dec.{eqb, lit<}
use lib.Arith.{digits_lt}
use lib.ListN.{length, get_or, take, drop, set, drop_of_length-le}
use lib.Seq.{drop-cons, take-suc, take-suc-set, drop-set-lt, get_or-set_same, lt-length-set, take_all}
use Rattle.octets.specs.Octets.{be_from, be_bytes, all_zero}

pub drop_next : (s : List ℕ) (i : ℕ) → i < length s → drop i s ≡ get_or s i 0 ∷ drop (i + 1) s
drop_next s i h = rw (add-one, drop-cons s i 0)

-- a copy's turn
pub copy_next : (d s : List ℕ) (i : ℕ) → take i d ≡ take i s → i < length d → i < length s → take (i + 1) (set d i (get_or s i 0)) ≡ take (i + 1) s
copy_next d s i e hd hs = rw (add-one, take-suc-set d i (get_or s i 0) hd, take-suc s i 0 hs, e)

-- a copy's end
pub copy_end : (d s : List ℕ) (i : ℕ) → take i d ≡ take i s → length d ≤ i → length s ≤ i → d ≡ s
copy_end d s i e hd hs = sym (take_all i d hd) ∙ e ∙ take_all i s hs

suc_sub_one : (j : ℕ) → suc j - 1 ≡ j
suc_sub_one j = omega arith

pub be_next : (v : ℕ) (s : List ℕ) (i : ℕ) → i < length s → be_from v (drop i s) ≡ be_from (v * 256 + get_or s i 0) (drop (i + 1) s)
unfolding be_from
be_next v s i h = ap (be_from v) (drop_next s i h)

pub be_end : (v : ℕ) (s : List ℕ) (i : ℕ) → length s ≤ i → be_from v (drop i s) ≡ v
unfolding be_from
be_end v s i h = ap (be_from v) (drop_of_length-le s h)

-- what is read so far has i bytes
pub be_fits : (v b i : ℕ) → v < 256 ^ i → b < 256 → v * 256 + b < 256 ^ (i + 1)
be_fits v b i hv hb = rw (add-one, pow-suc) (digits_lt hv hb)

pub be_room : (v i k : ℕ) → v < 256 ^ i → i ≤ k → v < 256 ^ k
be_room v i k hv hi = lt_of_lt_of_le hv (pow-le-pow_right {n = 256} (lit< tt) hi)

spell_suc : (x j : ℕ) (d : List ℕ) → j < length d → be_bytes (suc j) x ++ drop (suc j) d ≡ be_bytes j (x / 256) ++ drop j (set d j (x % 256))
unfolding be_bytes
spell_suc x j d h =
    append_assoc (be_bytes j (x / 256)) (x % 256 ∷ []) (drop (suc j) d)
    ∙ ap (λ (r : List ℕ). be_bytes j (x / 256) ++ r)
    (sym (drop-cons (set d j (x % 256)) j 0 (lt-length-set d j (x % 256) h)
    ∙ ap₂ (λ (a : ℕ) (r : List ℕ). a ∷ r) (get_or-set_same d j (x % 256) 0 h) (drop-set-lt (suc j) d j (x % 256) (le_refl (suc j)))))

pub spell_next : (x i : ℕ) (d : List ℕ) → 0 < i → i ≤ length d → be_bytes i x ++ drop i d ≡ be_bytes (i - 1) (x / 256) ++ drop (i - 1) (set d (i - 1) (x % 256))
spell_next x zero d p h = absurd (not-suc-le-zero p)
spell_next x (suc j) d p h = rw (suc_sub_one j) (spell_suc x j d h)

pub spell_end : (x i : ℕ) (d : List ℕ) → i ≤ 0 → be_bytes i x ++ drop i d ≡ d
unfolding be_bytes
spell_end x zero d h = refl
spell_end x (suc i) d h = absurd (not-suc-le-zero h)

-- a turn of the test for zeros
pub all_zero_next : (s : List ℕ) (i : ℕ) (a b : Bool) → i < length s → b ≡ (a && eqb (get_or s i 0) 0) → (a && all_zero (drop i s)) ≡ (b && all_zero (drop (i + 1) s))
unfolding all_zero
all_zero_next s i true b h e = rw (e, drop_next s i h)
all_zero_next s i false b h e = rw e

pub all_zero_end : (s : List ℕ) (i : ℕ) (a : Bool) → length s ≤ i → (a && all_zero (drop i s)) ≡ a
unfolding all_zero
all_zero_end s i true h = ap all_zero (drop_of_length-le s h)
all_zero_end s i false h = refl
