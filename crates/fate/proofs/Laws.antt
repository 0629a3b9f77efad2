-- Laws of fates: the numbered form that the code follows is what the fate makes of the list, a cut does what document 01 says,
-- and writes in a row are taken one part after the other.
-- Assumes nothing.
use mathlib.Core.Path.{◌≡◌, refl, sym, ap, ◌∙◌}
use mathlib.Core.Bool.{Bool, true, false, cond}
use mathlib.Core.List.{List, [], ◌∷◌, ◌++◌}
use Prim.Native.Nat.{ℕ, zero, suc, ◌+◌, ◌≤◌, ◌<◌}
use native.Mathlib.Omega.{arith}
use native.Mathlib.Decide.{dec_lt}
use lib.Dec.{ltb, eqb}
use lib.ListN.{length, take, length-take}
use borrow.Author.Tests.{eq-eqb, ne_eqb, lt-ltb, le-ltb}
use Rattle.octets.specs.Octets.{write_at}
use Rattle.octets.proofs.Laws.{length_write}
use Rattle.fate.specs.declared.Left.{Left}
use Rattle.fate.specs.declared.Left.TheVariants.{Old, New, Torn}
use Rattle.fate.specs.declared.Fate.{Fate}
use Rattle.fate.specs.declared.Fate.TheVariants.{Answered, Lost, AnswerLost, Cut}
use Rattle.fate.specs.Fates.{Write, all_of, leave, cut_at, after}
use Rattle.fate.specs.Numbered.{effect_of, after_from}

effect_below : (w k : ℕ) (l : Left) → k < w → effect_of (Cut w l) k ≡ New
unfolding effect_of
effect_below w k l h = rw (lt-ltb k w h)

effect_above : (w k : ℕ) (l : Left) → w < k → effect_of (Cut w l) k ≡ Old
unfolding effect_of
effect_above w k l h = rw (le-ltb k w (omega arith), ne_eqb k w (λ e. omega arith))

effect_here : (w : ℕ) (l : Left) → effect_of (Cut w l) w ≡ l
unfolding effect_of
effect_here w l = rw (le-ltb w w (omega arith), eq-eqb w w refl)

module _ (g : List ℕ) where
  -- ---- the numbered form

  pub from_answered : (k : ℕ) (xs : List Write) (m : List ℕ) → after_from k Answered g xs m ≡ all_of xs m
  unfolding after_from effect_of leave all_of
  from_answered k [] m = refl
  from_answered k (x ∷ xs) m = from_answered (k + 1) xs (write_at x.at x.bytes m)

  from_answer_lost : (k : ℕ) (xs : List Write) (m : List ℕ) → after_from k AnswerLost g xs m ≡ all_of xs m
  unfolding after_from effect_of leave all_of
  from_answer_lost k [] m = refl
  from_answer_lost k (x ∷ xs) m = from_answer_lost (k + 1) xs (write_at x.at x.bytes m)

  from_lost : (k : ℕ) (xs : List Write) (m : List ℕ) → after_from k Lost g xs m ≡ m
  unfolding after_from effect_of leave
  from_lost k [] m = refl
  from_lost k (x ∷ xs) m = from_lost (k + 1) xs m

  -- behind the cut nothing happens
  from_behind : (k w : ℕ) (l : Left) (xs : List Write) (m : List ℕ) → w < k → after_from k (Cut w l) g xs m ≡ m
  unfolding after_from leave
  from_behind k w l [] m h = refl
  from_behind k w l (x ∷ xs) m h = rw (effect_above w k l h) (from_behind (k + 1) w l xs m (omega arith))

  from_cut : (k w : ℕ) (l : Left) (xs : List Write) (m : List ℕ) → after_from k (Cut (k + w) l) g xs m ≡ cut_at (suc w) l g xs m
  unfolding after_from cut_at leave
  from_cut k w l [] m = refl
  from_cut k zero l (x ∷ xs) m =
      let q : k + 0 ≡ k = omega arith in
      ap (λ (w : ℕ). after_from (k + 1) (Cut w l) g xs (leave (effect_of (Cut w l) k) g x m)) q
      ∙ from_behind (k + 1) k l xs (leave (effect_of (Cut k l) k) g x m) (omega arith)
      ∙ ap (λ (y : Left). leave y g x m) (effect_here k l)
  from_cut k (suc w) l (x ∷ xs) m =
      let q : k + suc w ≡ k + 1 + w = omega arith in
      ap (λ (y : Left). after_from (k + 1) (Cut (k + suc w) l) g xs (leave y g x m)) (effect_below (k + suc w) k l (omega arith))
      ∙ ap (λ (i : ℕ). after_from (k + 1) (Cut i l) g xs (write_at x.at x.bytes m)) q
      ∙ from_cut (k + 1) w l xs (write_at x.at x.bytes m)

  cut_none : (l : Left) (xs : List Write) (m : List ℕ) → cut_at 0 l g xs m ≡ m
  unfolding cut_at
  cut_none l [] m = refl
  cut_none l (x ∷ xs) m = refl

  -- the code's writes, numbered from 1, are what the fate makes of the list
  pub numbered : (f : Fate) (xs : List Write) (m : List ℕ) → after_from 1 f g xs m ≡ after f g xs m
  unfolding after
  numbered Answered xs m = from_answered 1 xs m
  numbered Lost xs m = from_lost 1 xs m
  numbered AnswerLost xs m = from_answer_lost 1 xs m
  numbered (Cut zero l) xs m = from_behind 1 0 l xs m (omega arith) ∙ sym (cut_none l xs m)
  numbered (Cut (suc w) l) xs m =
      let q : suc w ≡ 1 + w = omega arith in
      ap (λ (i : ℕ). after_from 1 (Cut i l) g xs m) q ∙ from_cut 1 w l xs m

  -- ---- document 01's words of a cut

  -- "If w exceeds the writes made, all happen"
  pub cut_past : (w : ℕ) (l : Left) (xs : List Write) (m : List ℕ) → length xs < w → cut_at w l g xs m ≡ all_of xs m
  unfolding cut_at all_of
  cut_past w l [] m h = refl
  cut_past zero l (x ∷ xs) m h = absurd (omega arith)
  cut_past (suc zero) l (x ∷ xs) m h = absurd (omega arith)
  cut_past (suc (suc w)) l (x ∷ xs) m h = cut_past (suc w) l xs (write_at x.at x.bytes m) (omega arith)

  -- the writes before the cut are whole, the one at it is old, new or torn, and no other happens
  pub cut_here : (l : Left) (xs : List Write) (x : Write) (ys : List Write) (m : List ℕ)
      → cut_at (suc (length xs)) l g (xs ++ (x ∷ ys)) m ≡ leave l g x (all_of xs m)
  unfolding cut_at all_of
  cut_here l [] x ys m = refl
  cut_here l (z ∷ xs) x ys m = cut_here l xs x ys (write_at z.at z.bytes m)

  -- ---- laws that the operations use

  -- behind a write that is not whole nothing happens
  pub stops : (f : Fate) (k : ℕ) → (effect_of f k ≡ New → ⊥) → (xs : List Write) (m : List ℕ) → after_from (k + 1) f g xs m ≡ m
  unfolding effect_of
  stops Answered k h xs m = absurd (h refl)
  stops AnswerLost k h xs m = absurd (h refl)
  stops Lost k h xs m = from_lost (k + 1) xs m
  stops (Cut w l) k h xs m = go (dec_lt k w)
    where
      go : Dec (k < w) → after_from (k + 1) (Cut w l) g xs m ≡ m
      go (yes p) = absurd (h (effect_below w k l p))
      go (no p) = from_behind (k + 1) w l xs m (omega (arith, p))

  pub from_none : (k : ℕ) (f : Fate) (m : List ℕ) → after_from k f g [] m ≡ m
  unfolding after_from
  from_none k f m = refl

  pub from_one : (k : ℕ) (f : Fate) (x : Write) (m : List ℕ) → after_from k f g (x ∷ []) m ≡ leave (effect_of f k) g x m
  unfolding after_from
  from_one k f x m = refl

  pub from_append : (k : ℕ) (f : Fate) (xs ys : List Write) (m : List ℕ) → after_from k f g (xs ++ ys) m ≡ after_from (k + length xs) f g ys (after_from k f g xs m)
  unfolding after_from
  from_append k f [] ys m = let q : k ≡ k + 0 = omega arith in ap (λ (i : ℕ). after_from i f g ys m) q
  from_append k f (x ∷ xs) ys m =
      let n = leave (effect_of f k) g x m in
      let q : k + 1 + length xs ≡ k + suc (length xs) = omega arith in
      from_append (k + 1) f xs ys n ∙ ap (λ (i : ℕ). after_from i f g ys (after_from (k + 1) f g xs n)) q

  -- ---- lengths

  pub length_leave : (l : Left) (x : Write) (m : List ℕ) → x.at + length x.bytes ≤ length m → length x.bytes ≤ length g → length (leave l g x m) ≡ length m
  unfolding leave
  length_leave Old x m h k = refl
  length_leave New x m h k = length_write x.at x.bytes m h
  length_leave Torn x m h k = length_write x.at (take (length x.bytes) g) m (simp length-take (omega arith))

-- only a torn cut leaves given bytes
pub torn_cut : (f : Fate) (k : ℕ) → effect_of f k ≡ Torn → (w : ℕ) × (f ≡ Cut w Torn)
unfolding effect_of
torn_cut Answered k e = let z : ◌≡◌ {A = ℕ} 0 1 = cc in absurd (omega arith)
torn_cut Lost k e = let z : ◌≡◌ {A = ℕ} 0 1 = cc in absurd (omega arith)
torn_cut AnswerLost k e = let z : ◌≡◌ {A = ℕ} 0 1 = cc in absurd (omega arith)
torn_cut (Cut w l) k e = go (ltb k w) (eqb k w) e
  where
    go : (a b : Bool) → cond a New (cond b l Old) ≡ Torn → (v : ℕ) × (Cut w l ≡ Cut v Torn)
    go true b q = let z : ◌≡◌ {A = ℕ} 0 1 = cc in absurd (omega arith)
    go false true q = (w, ap (Cut w) q)
    go false false q = let z : ◌≡◌ {A = ℕ} 0 1 = cc in absurd (omega arith)
