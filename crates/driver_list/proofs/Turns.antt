-- A turn of each loop over the list of replicas, at k, and its end.
-- Assumes nothing.
use mathlib.Core.Path.{◌≡◌, refl, sym, ap, ◌∙◌}
use mathlib.Core.Bool.{Bool, true, false, ◌&&◌, ◌||◌}
use mathlib.Core.List.{List, [], ◌∷◌}
use Prim.Native.Nat.{ℕ, ◌+◌, ◌-◌, ◌≤◌, ◌<◌, max}
use native.Mathlib.Numerals.{add-one}
use native.Mathlib.Omega.{arith}
use lib.Dec.{eqb, leb}
use lib.ListN.{length, take, drop, get_or, length-drop, drop_of_length-le}
use lib.Seq.{drop-cons, take_all}
use Rattle.std.specs.List.{list_any}
use Rattle.cluster.specs.declared.Server.{Server}
use Rattle.cluster.specs.State.{mark_at, votes_at}
use Rattle.recovery.specs.Recovery.{contains, repeats, not_below, voter_mark, highest_known, first_at}

-- what `&s[a..]` refers to
pub to_end : (a : ℕ) (s : List ℕ) → take (length s - a) (drop a s) ≡ drop a s
to_end a s = take_all (length s - a) (drop a s) (omega (arith, length-drop a s))

-- ---- what `any` and `contains` answer

pub not_below_any : (r : ℕ) (l : List ℕ) → list_any (leb r) l ≡ not_below r l
unfolding not_below
not_below_any r [] = refl
not_below_any r (i ∷ is) = ap (λ (b : Bool). leb r i || b) (not_below_any r is)

pub contains_any : (l : List ℕ) (i : ℕ) → list_any (λ k. eqb k i) l ≡ contains l i
unfolding contains
contains_any [] i = refl
contains_any (k ∷ ks) i = ap (λ (b : Bool). eqb k i || b) (contains_any ks i)

-- ---- the loops over the list, at k

module _ (l : List ℕ) (k : ℕ) where
  abbrev here : ℕ
  here = get_or l k 0

  abbrev others : List ℕ
  others = drop (k + 1) l

  next : k < length l → drop k l ≡ here ∷ others
  next h = rw (add-one, drop-cons l k 0 h)

  -- b is what the code is told of the part behind the number
  module _ (b : Bool) (q : b ≡ contains (take (length l - (k + 1)) others) here) where
    q' : b ≡ contains others here
    q' = q ∙ ap (λ (s : List ℕ). contains s here) (to_end (k + 1) l)

    pub repeats_found : k < length l → b ≡ true → true ≡ repeats (drop k l)
    unfolding repeats
    repeats_found h e = rw (next h, sym q' ∙ e)

    pub repeats_not : k < length l → b ≡ false → repeats (drop k l) ≡ repeats others
    unfolding repeats
    repeats_not h e = rw (next h, sym q' ∙ e)

  pub repeats_end : length l ≤ k → false ≡ repeats (drop k l)
  unfolding repeats
  repeats_end h = rw (drop_of_length-le l h)

  -- ---- marks

  module _ (v : Server) where
    -- n is the mark that counts here, best the highest so far, x the higher of the two
    pub highest_turn : (best n x : ℕ) → k < length l → n ≡ voter_mark v here → x ≡ max n best
        → max best (highest_known v (drop k l)) ≡ max x (highest_known v others)
    unfolding highest_known
    highest_turn best n x h e f = rw (next h, ← e, f) (omega arith)

    pub highest_end : (best : ℕ) → length l ≤ k → best ≡ max best (highest_known v (drop k l))
    unfolding highest_known
    highest_end best h = rw (drop_of_length-le l h) (omega arith)

    module _ (m : ℕ) (b : Bool) (q : b ≡ (votes_at v here && eqb (mark_at v here) m)) where
      pub first_found : k < length l → b ≡ true → here ≡ first_at v m (drop k l)
      unfolding first_at
      first_found h e = rw (next h, sym q ∙ e)

      pub first_not : k < length l → b ≡ false → first_at v m (drop k l) ≡ first_at v m others
      unfolding first_at
      first_not h e = rw (next h, sym q ∙ e)

    pub first_end : (m : ℕ) → length l ≤ k → 0 ≡ first_at v m (drop k l)
    unfolding first_at
    first_end m h = rw (drop_of_length-le l h)
