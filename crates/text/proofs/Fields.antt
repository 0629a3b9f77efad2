-- The fields of a line, as the code comes to them.
-- Assumes nothing.
use mathlib.Core.Path.{◌≡◌, sym, ap, ◌∙◌}
use mathlib.Core.List.{List}
use Prim.Native.Nat.{ℕ, zero, suc, ◌+◌, ◌-◌, ◌<◌, ◌≤◌}
use native.Mathlib.Omega.{arith}
use lib.ListN.{length, take, drop, length-take, length-drop, drop_of_length-le}
use lib.Seq.{take_all, take-length}
use Rattle.byte_search.specs.Bytes.{index_of, slice}
use Rattle.std.proofs.Common.{◌==◌}
use Rattle.std.proofs.lemmas.List.Sums.{count_by-le-length}
use Rattle.text.specs.Text.{tab, first_of, behind_of, after_of, field_of, field_count}

-- a search of the whole line
pub found : (s : List ℕ) (r : ℕ) → r ≡ 0 + index_of tab (slice 0 (length s) s) → r ≡ index_of tab s
unfolding slice
found s r e = let q : 0 + index_of tab (take (length s) s) ≡ index_of tab (take (length s) s) = omega arith in e ∙ q ∙ ap (index_of tab) (take-length s)

pub first_is : (s : List ℕ) (r : ℕ) → r ≡ index_of tab s → take r s ≡ first_of s
unfolding first_of
first_is s r e = ap (λ (n : ℕ). take n s) e

-- what `&s[k..]` refers to
pub from_is : (s : List ℕ) (k : ℕ) → take (length s - k) (drop k s) ≡ drop k s
from_is s k = take_all (length s - k) (drop k s) (simp length-drop (omega arith))

pub behind_is : (s : List ℕ) (r : ℕ) → r ≡ index_of tab s → take (length s - (r + 1)) (drop (r + 1) s) ≡ behind_of s
unfolding behind_of
behind_is s r e = from_is s (r + 1) ∙ ap (λ (n : ℕ). drop (n + 1) s) e

-- without a tab nothing stands behind it
pub behind_none : (s : List ℕ) (r : ℕ) → r ≡ index_of tab s → r ≡ length s → take (length s - r) (drop r s) ≡ behind_of s
unfolding behind_of
behind_none s r e h =
    let p : length s ≤ r = omega arith in
    let q : length s ≤ index_of tab s + 1 = omega arith in
    from_is s r ∙ drop_of_length-le s p ∙ sym (drop_of_length-le s q)

-- turn i of k
pub after_next : (k i : ℕ) (s : List ℕ) → i < k → after_of (k - i) s ≡ after_of (k - (i + 1)) (behind_of s)
unfolding after_of
after_next k i s h = let q : k - i ≡ suc (k - (i + 1)) = omega arith in rw q

pub after_end : (k i : ℕ) (s : List ℕ) → k ≤ i → after_of (k - i) s ≡ s
unfolding after_of
after_end k i s h = let q : k - i ≡ 0 = omega arith in rw q

-- no part of a line is longer than the line
first_short : (s : List ℕ) → length (first_of s) ≤ length s
unfolding first_of
first_short s = simp length-take (omega arith)

after_short : (k : ℕ) (s : List ℕ) → length (after_of k s) ≤ length s
unfolding after_of behind_of
after_short zero s = omega arith
after_short (suc k) s = let q : length (drop (index_of tab s + 1) s) ≤ length s = simp length-drop (omega arith) in omega (arith, after_short k (drop (index_of tab s + 1) s))

pub field_short : (k : ℕ) (s : List ℕ) → length (field_of k s) ≤ length s
field_short k s = omega (arith, first_short (after_of k s), after_short k s)

-- a line has no more tabs than bytes
pub count_few : (s : List ℕ) → field_count s ≤ length s + 1
unfolding field_count
count_few s = omega (arith, count_by-le-length (λ b. b == tab) s)
