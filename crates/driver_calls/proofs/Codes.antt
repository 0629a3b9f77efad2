-- The fate that a number stands for, by its cases, and a list of fates read at an index.
-- Assumes nothing.
use mathlib.Core.Path.{◌≡◌, refl, sym}
use mathlib.Core.List.{List}
use Prim.Native.Nat.{ℕ, zero, suc, ◌-◌, ◌/◌, ◌%◌, ◌≤◌}
use native.Mathlib.Omega.{arith}
use lib.ListN.{length, get_or, length-map, get_or-map, get_or-eq_default}
use Rattle.fate.specs.declared.Fate.TheVariants.{Answered, Cut}
use Rattle.fate.specs.declared.Left.TheVariants.{Torn}
use Rattle.recovery.specs.Asked.{left_of, fate_of, fates_of}

pub torn_above : (l : ℕ) → 2 ≤ l → left_of l ≡ Torn
torn_above zero h = absurd (omega arith)
torn_above (suc zero) h = absurd (omega arith)
torn_above (suc (suc l)) h = refl

pub cut_above : (n : ℕ) → 3 ≤ n → fate_of n ≡ Cut ((n - 3) / 3) (left_of ((n - 3) % 3))
cut_above zero h = absurd (omega arith)
cut_above (suc zero) h = absurd (omega arith)
cut_above (suc (suc zero)) h = absurd (omega arith)
cut_above (suc (suc (suc n))) h = let q : suc (suc (suc n)) - 3 ≡ n = omega arith in rw q

pub fate_in : (ks : List ℕ) (k : ℕ) → fate_of (get_or ks k 0) ≡ get_or (fates_of ks) k Answered
fate_in ks k = sym (get_or-map fate_of ks k 0)

pub fate_behind : (ks : List ℕ) (k : ℕ) → length ks ≤ k → Answered ≡ get_or (fates_of ks) k Answered
fate_behind ks k h = sym (get_or-eq_default (fates_of ks) Answered (omega (arith, length-map ks fate_of)))
