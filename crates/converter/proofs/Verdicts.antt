-- When the converter declines, case by case, and what is left of the second slice.
--
--   declines   27 is given exactly unless the lengths are those of one N from 1 to 1,000 and the old medium has a valid slot; then nothing changes
-- Assumes nothing.
use mathlib.Core.Path.{◌≡◌, refl, sym, ap, ◌∙◌}
use mathlib.Core.Bool.{Bool, true, false, cond, ◌&&◌, ◌||◌, and-eq-true_iff}
use mathlib.Core.List.{List}
use mathlib.Core.Logic.{◌↔◌}
use Prim.Native.Nat.{ℕ, ◌≤◌}
use native.Mathlib.Omega.{arith}
use lib.Dec.{eqb, leb}
use lib.ListN.{length}
use borrow.Author.Tests.{eq-eqb, le-leb, eqb-true, leb-true}
use Rattle.storage.specs.Sizes.{places_limit, medium_size}
use Rattle.storage.specs.Slots.{current_of, first_of, second_of, valid_slot, newer, slot_of, HasSlot}
use Rattle.storage.specs.declared.slot.Current.TheVariants.{First, Second, Neither}
use Rattle.old_places.specs.Old.{old_medium_size}
use Rattle.converter.specs.Convert.{Reply, ok, no, places_of, lengths_of, sizes_fit, has_slot, verdict, converted, if_ok, new_medium}

-- ================ the statement

-- the lengths of an old medium and a new one of N places
pub record Lengths (N old new : ℕ) : Type 0 where
  pub least : 1 ≤ N
  pub most : N ≤ places_limit
  pub before : old ≡ old_medium_size N
  pub after : new ≡ medium_size N

-- an old medium that can be converted into a second slice
pub record Convertible (N : ℕ) (old new : List ℕ) : Type 0 where
  pub lengths : Lengths N (length old) (length new)
  pub slot : HasSlot old

abbrev pub Declines : Type 0
Declines =
    (old new : List ℕ)
    → ((verdict old new ≡ ok) ↔ ((N : ℕ) × Convertible N old new))
    × (((N : ℕ) → Convertible N old new → ⊥) → (verdict old new ≡ no 27) × (new_medium old new ≡ new))
    × ((N : ℕ) → Convertible N old new → new_medium old new ≡ converted N old)

-- ================ the lengths

pub lengths_are : (N old new : ℕ) → lengths_of N old new ≡ true → Lengths N old new
lengths_are N old new e =
    let a = leb 1 N in
    let b = leb N places_limit in
    let c = eqb old (old_medium_size N) in
    let d = eqb new (medium_size N) in
    let e₃ = (and-eq-true_iff (a && b && c) d).0 e in
    let e₂ = (and-eq-true_iff (a && b) c).0 e₃.0 in
    let e₁ = (and-eq-true_iff a b).0 e₂.0 in
    record { least = leb-true 1 N e₁.0; most = leb-true N places_limit e₁.1; before = eqb-true old (old_medium_size N) e₂.1; after = eqb-true new (medium_size N) e₃.1 }

-- the number of places is found from the old medium's length
places_found : (N : ℕ) → places_of (old_medium_size N) ≡ N
unfolding places_of
places_found N = omega arith

lengths_fit : (N old new : ℕ) → Lengths N old new → sizes_fit old new ≡ true
unfolding sizes_fit
lengths_fit N old new l =
    let n : places_of old ≡ N = ap places_of l.before ∙ places_found N in
    rw (n, le-leb 1 N l.least, le-leb N places_limit l.most, eq-eqb old (old_medium_size N) l.before, eq-eqb new (medium_size N) l.after)

-- ================ the slots

-- a slot is valid exactly if one of them is current
chosen : (a b n : Bool) → ((cond a (cond b (cond n Second First) First) (cond b Second Neither) ≡ Neither) → ⊥) → (a || b) ≡ true
chosen true b n h = refl
chosen false true n h = refl
chosen false false n h = absurd (h refl)

kept : (a b n : Bool) → (a || b) ≡ true → cond a (cond b (cond n Second First) First) (cond b Second Neither) ≡ Neither → ⊥
kept true true true v e = let w : ◌≡◌ {A = ℕ} 0 1 = cc in omega arith
kept true true false v e = let w : ◌≡◌ {A = ℕ} 0 1 = cc in omega arith
kept true false n v e = let w : ◌≡◌ {A = ℕ} 0 1 = cc in omega arith
kept false true n v e = let w : ◌≡◌ {A = ℕ} 0 1 = cc in omega arith
kept false false n v e = let w : ◌≡◌ {A = ℕ} 0 1 = cc in omega arith

slot_iff : (m : List ℕ) → (has_slot m ≡ true) ↔ HasSlot m
unfolding has_slot current_of
slot_iff m = (
  kept (valid_slot (first_of m)) (valid_slot (second_of m)) (newer (slot_of (first_of m)) (slot_of (second_of m))),
  chosen (valid_slot (first_of m)) (valid_slot (second_of m)) (newer (slot_of (first_of m)) (slot_of (second_of m))),
)

-- ================ the cases of the code

module _ (old new : List ℕ) where
  pub bad_lengths : (n : ℕ) → n ≡ places_of (length old) → lengths_of n (length old) (length new) ≡ false → no 27 ≡ verdict old new
  unfolding verdict sizes_fit
  bad_lengths n e h = rw (← e, h)

  module _ (n : ℕ) (e : n ≡ places_of (length old)) (h : lengths_of n (length old) (length new) ≡ true) where
    pub bad_slots : has_slot old ≡ false → no 27 ≡ verdict old new
    unfolding verdict sizes_fit
    bad_slots s = rw (← e, h, s)

    pub passes : has_slot old ≡ true → ok ≡ verdict old new
    unfolding verdict sizes_fit
    passes s = rw (← e, h, s)

  pub stays : (n : ℕ) → no n ≡ verdict old new → new ≡ new_medium old new
  unfolding new_medium if_ok
  stays n e = ap (λ (r : Reply). if_ok r (converted (places_of (length old)) old) new) e

  pub becomes : (n : ℕ) (l : List ℕ) → n ≡ places_of (length old) → ok ≡ verdict old new → l ≡ converted n old → l ≡ new_medium old new
  unfolding new_medium if_ok
  becomes n l e v q = q ∙ ap (λ (k : ℕ). converted k old) e ∙ ap (λ (r : Reply). if_ok r (converted (places_of (length old)) old) new) v

-- ================ the proof

either : (b : Bool) → cond b ok (no 27) ≡ ok → b ≡ true
either true e = refl
either false e = let w : ◌≡◌ {A = ℕ} 0 1 = cc in absurd (omega arith)

module _ (old new : List ℕ) where
  abbrev tested : Bool
  tested = sizes_fit (length old) (length new) && has_slot old

  convertible : tested ≡ true → Convertible (places_of (length old)) old new
  unfolding sizes_fit
  convertible e =
      let b = (and-eq-true_iff (sizes_fit (length old) (length new)) (has_slot old)).0 e in
      let l = lengths_are (places_of (length old)) (length old) (length new) b.0 in
      record { lengths = l; slot = (slot_iff old).0 b.1 }

  tests : (N : ℕ) → Convertible N old new → tested ≡ true
  tests N c =
      (and-eq-true_iff (sizes_fit (length old) (length new)) (has_slot old)).1 (
        lengths_fit N (length old) (length new) c.lengths,
        (slot_iff old).1 c.slot,
      )

  accepted : tested ≡ true → verdict old new ≡ ok
  unfolding verdict
  accepted e = ap (λ (b : Bool). cond b ok (no 27)) e

  declined : tested ≡ false → verdict old new ≡ no 27
  unfolding verdict
  declined e = ap (λ (b : Bool). cond b ok (no 27)) e

  ok_only : verdict old new ≡ ok → tested ≡ true
  unfolding verdict
  ok_only e = either tested e

  refused : ((N : ℕ) → Convertible N old new → ⊥) → tested ≡ false
  refused h = go tested refl
    where
      go : (b : Bool) → tested ≡ b → b ≡ false
      go true e = absurd (h (places_of (length old)) (convertible e))
      go false e = refl

pub declines : Declines
declines old new = (
  (λ e. (places_of (length old), convertible old new (ok_only old new e)), λ c. accepted old new (tests old new c.0 c.1)),
  λ h. let v = declined old new (refused old new h) in (v, sym (stays old new 27 (sym v))),
  λ N c.
      let n : N ≡ places_of (length old) = sym (ap places_of c.lengths.before ∙ places_found N) in
      sym (becomes old new N (converted N old) n (sym (accepted old new (tests old new N c))) refl),
)
