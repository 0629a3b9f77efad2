-- Laws of a request's locks: turns of the loops over them, and lengths.
-- Assumes nothing.
use mathlib.Core.Path.{◌≡◌, refl, sym, ap, ◌∙◌}
use mathlib.Core.Bool.{Bool, true, false}
use mathlib.Core.List.{List, [], ◌∷◌}
use Prim.Native.Nat.{ℕ, ◌+◌, ◌≤◌, ◌<◌}
use native.Mathlib.Numerals.{add-one}
use lib.ListN.{length, get_or, drop, length-set, drop_of_length-le}
use lib.Seq.{drop-cons}
use Rattle.std.specs.Prelude.{Option, Some, None}
use Rattle.locks.specs.declared.HeldLock.{HeldLock}
use Rattle.locks.specs.Locks.{estimate_of, marked_at, marked_all, conflict, held_lock, first_held}

drop_next : (ks : List ℕ) (i : ℕ) → i < length ks → drop i ks ≡ get_or ks i 0 ∷ drop (i + 1) ks
drop_next ks i l = rw (add-one, drop-cons ks i 0)

-- the search for the first lock that refuses: w is the result, and the locks below i have been passed
module _ (table ks : List ℕ) (client i : ℕ) (w : Option HeldLock) (inv : w ≡ first_held table (drop i ks) client) where
  pub held_end : length ks ≤ i → None ≡ w
  unfolding first_held
  held_end l = sym (inv ∙ ap (λ (x : List ℕ). first_held table x client) (drop_of_length-le ks l))

  module _ (l : i < length ks) (e : ℕ) (b : Bool) (ee : e ≡ estimate_of table (get_or ks i 0)) (eb : b ≡ conflict e client) where
    pub held_here : b ≡ true → Some (held_lock (get_or ks i 0) e) ≡ w
    unfolding first_held
    held_here t = rw (inv, drop_next ks i l, ← ee, ← eb, t)

    pub held_next : b ≡ false → w ≡ first_held table (drop (i + 1) ks) client
    unfolding first_held
    held_next t = rw (inv, drop_next ks i l, ← ee, ← eb, t)

-- the writes: w is the result, and the locks below i are written
module _ (table ks : List ℕ) (id i : ℕ) (w : List ℕ) (inv : w ≡ marked_all table (drop i ks) id) where
  pub marked_end : length ks ≤ i → table ≡ w
  unfolding marked_all
  marked_end l = sym (inv ∙ ap (λ (x : List ℕ). marked_all table x id) (drop_of_length-le ks l))

  pub marked_next : i < length ks → (t : List ℕ) → t ≡ marked_at table (get_or ks i 0) id → w ≡ marked_all t (drop (i + 1) ks) id
  unfolding marked_all
  marked_next l t e = inv ∙ ap (λ (x : List ℕ). marked_all table x id) (drop_next ks i l) ∙ ap (λ (x : List ℕ). marked_all x (drop (i + 1) ks) id) (sym e)

pub length_marked : (table : List ℕ) (k id : ℕ) → length (marked_at table k id) ≡ length table
unfolding marked_at
length_marked table k id = simp length-set

pub length_marked_all : (table ks : List ℕ) (id : ℕ) → length (marked_all table ks id) ≡ length table
unfolding marked_all
length_marked_all table [] id = refl
length_marked_all table (k ∷ ks) id = length_marked_all (marked_at table k id) ks id ∙ length_marked table k id
