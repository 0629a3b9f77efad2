-- What one write leaves of the slots: a place write neither slot touched, a slot over the other one, invalid bytes there.
-- Assumes nothing.
use mathlib.Core.Path.{◌≡◌, refl, sym, ap, ap₂, ◌∙◌}
use mathlib.Core.Logic.{◌⊎◌, inl, inr, ⊎_elim}
use mathlib.Core.Bool.{Bool, true, false, cond}
use mathlib.Core.List.{List}
use Prim.Native.Nat.{ℕ, ◌≤◌, ◌<◌}
use native.Mathlib.Omega.{arith}
use lib.Dec.{lit≤}
use lib.ListN.{length}
use borrow.Author.Tests.{lt-ltb, le-ltb, ne_eqb}
use Rattle.octets.specs.Octets.{part, write_at}
use Rattle.octets.proofs.Laws.{part_write, part_before, part_after}
use Rattle.storage.specs.declared.slot.Slot.{Slot}
use Rattle.storage.specs.declared.slot.Current.{Current}
use Rattle.storage.specs.declared.slot.Current.TheVariants.{First, Second, Neither}
use Rattle.storage.specs.Sizes.{slot_size, slots_size, medium_size, place_offset}
use Rattle.storage.specs.Slots.{slot_bytes, slot_of, valid_slot, newer, first_of, second_of, current_of, held_of, stored_slot, other_at, HasSlot, FittingSlot}
use Rattle.storage.proofs.SlotReadBack.{slot_back, slot_length, slot_valid}
use Rattle.storage.proofs.Blocks.{slots_kept}

-- the current slot by the bytes of the two
choice : List ℕ → List ℕ → Current
choice a b = cond (valid_slot a) (cond (valid_slot b) (cond (newer (slot_of a) (slot_of b)) Second First) First) (cond (valid_slot b) Second Neither)

held : Current → List ℕ → List ℕ → Slot
held First a b = slot_of a
held Second a b = slot_of b
held Neither a b = record { promise = 0; low = 0; local = 0 }

current_is : (m : List ℕ) → current_of m ≡ choice (first_of m) (second_of m)
unfolding current_of choice
current_is m = refl

held_is : (c : Current) (m : List ℕ) → held_of c m ≡ held c (first_of m) (second_of m)
unfolding held
held_is First m = refl
held_is Second m = refl
held_is Neither m = refl

stored_is : (m : List ℕ) → stored_slot m ≡ held (choice (first_of m) (second_of m)) (first_of m) (second_of m)
unfolding stored_slot
stored_is m = held_is (current_of m) m ∙ ap (λ (c : Current). held c (first_of m) (second_of m)) (current_is m)

stored_by : (c : Current) (m : List ℕ) → current_of m ≡ c → stored_slot m ≡ held_of c m
unfolding stored_slot
stored_by c m e = ap (λ (i : Current). held_of i m) e

-- what is current and what is stored follow from the bytes of the two
pub same_slots : (m m' : List ℕ) → first_of m' ≡ first_of m → second_of m' ≡ second_of m → (current_of m' ≡ current_of m) × (stored_slot m' ≡ stored_slot m)
same_slots m m' a b = (
  current_is m' ∙ ap₂ choice a b ∙ sym (current_is m),
  stored_is m' ∙ ap₂ (λ (x y : List ℕ). held (choice x y) x y) a b ∙ sym (stored_is m),
)

-- ---- a place write

module _ (N j : ℕ) (m bs : List ℕ) (size : length m ≡ medium_size N) (lo : 1 ≤ j) (hi : j ≤ N) where
  first_kept : first_of (write_at (place_offset j) bs m) ≡ first_of m
  first_kept = slots_kept N m bs size j 0 slot_size lo hi (lit≤ tt)

  second_kept : second_of (write_at (place_offset j) bs m) ≡ second_of m
  second_kept = slots_kept N m bs size j slot_size slot_size lo hi (lit≤ tt)

  pub current_kept : current_of (write_at (place_offset j) bs m) ≡ current_of m
  current_kept = (same_slots m (write_at (place_offset j) bs m) first_kept second_kept).0

  pub stored_kept : stored_slot (write_at (place_offset j) bs m) ≡ stored_slot m
  stored_kept = (same_slots m (write_at (place_offset j) bs m) first_kept second_kept).1

-- ---- a slot write

-- of two valid slots, one is current and is held
either_held : (a b : List ℕ) → valid_slot a ≡ true → valid_slot b ≡ true
    → ((choice a b ≡ First) × (held (choice a b) a b ≡ slot_of a)) ⊎ ((choice a b ≡ Second) × (held (choice a b) a b ≡ slot_of b))
unfolding choice held
either_held a b va vb = rw (va, vb) (go (newer (slot_of a) (slot_of b)))
  where
    go : (n : Bool) → ((cond n Second First ≡ First) × (held (cond n Second First) a b ≡ slot_of a)) ⊎ ((cond n Second First ≡ Second) × (held (cond n Second First) a b ≡ slot_of b))
    go true = inr (refl, refl)
    go false = inl (refl, refl)

second_newer : (a b : List ℕ) → valid_slot a ≡ true → valid_slot b ≡ true → (slot_of a).promise < (slot_of b).promise → held (choice a b) a b ≡ slot_of b
unfolding choice newer held
second_newer a b va vb h = rw (va, vb, lt-ltb (slot_of a).promise (slot_of b).promise h)

first_newer : (a b : List ℕ) → valid_slot a ≡ true → valid_slot b ≡ true → (slot_of b).promise < (slot_of a).promise → held (choice a b) a b ≡ slot_of a
unfolding choice newer held
first_newer a b va vb h =
    rw (va, vb, le-ltb (slot_of a).promise (slot_of b).promise (omega arith), ne_eqb (slot_of a).promise (slot_of b).promise (λ e. omega arith))

alone_first : (a b : List ℕ) → valid_slot a ≡ true → valid_slot b ≡ false → choice a b ≡ First
unfolding choice
alone_first a b va vb = rw (va, vb)

alone_second : (a b : List ℕ) → valid_slot a ≡ false → valid_slot b ≡ true → choice a b ≡ Second
unfolding choice
alone_second a b va vb = rw (va, vb)

first_valid : (va vb n : Bool) → cond va (cond vb (cond n Second First) First) (cond vb Second Neither) ≡ First → va ≡ true
first_valid true vb n e = refl
first_valid false true n e = let z : ◌≡◌ {A = ℕ} 0 1 = cc in absurd (omega arith)
first_valid false false n e = let z : ◌≡◌ {A = ℕ} 0 1 = cc in absurd (omega arith)

second_valid : (va vb n : Bool) → cond va (cond vb (cond n Second First) First) (cond vb Second Neither) ≡ Second → vb ≡ true
second_valid va true n e = refl
second_valid true false n e = let z : ◌≡◌ {A = ℕ} 0 1 = cc in absurd (omega arith)
second_valid false false n e = let z : ◌≡◌ {A = ℕ} 0 1 = cc in absurd (omega arith)

-- the slot that is current is valid
choice_first : (a b : List ℕ) → choice a b ≡ First → valid_slot a ≡ true
unfolding choice
choice_first a b e = first_valid (valid_slot a) (valid_slot b) (newer (slot_of a) (slot_of b)) e

choice_second : (a b : List ℕ) → choice a b ≡ Second → valid_slot b ≡ true
unfolding choice
choice_second a b e = second_valid (valid_slot a) (valid_slot b) (newer (slot_of a) (slot_of b)) e

shown : (c d : Current) → c ≡ d → (d ≡ Neither → ⊥) → c ≡ Neither → ⊥
shown c d e h z = h (sym e ∙ z)

first_is : First ≡ Neither → ⊥
first_is e = let z : ◌≡◌ {A = ℕ} 0 1 = cc in omega arith

second_is : Second ≡ Neither → ⊥
second_is e = let z : ◌≡◌ {A = ℕ} 0 1 = cc in omega arith

-- what a write over the other slot leaves: a valid slot, and the new fields or the old ones
pub record Overwritten (m m' : List ℕ) (y : Slot) : Type 0 where
  pub valid : HasSlot m'
  pub slot : (stored_slot m' ≡ y) ⊎ (stored_slot m' ≡ stored_slot m)

module _ (m m' : List ℕ) (y : Slot) where
  from_first : first_of m' ≡ first_of m → second_of m' ≡ slot_bytes y → FittingSlot y → current_of m ≡ First
      → Overwritten m m' y × ((stored_slot m).promise < y.promise → stored_slot m' ≡ y)
  from_first p q w e =
      let va = choice_first (first_of m) (second_of m) (sym (current_is m) ∙ e) in
      let old : stored_slot m ≡ slot_of (first_of m) = stored_by First m e in
      let c' : current_of m' ≡ choice (first_of m) (slot_bytes y) = current_is m' ∙ ap₂ choice p q in
      let s' : stored_slot m' ≡ held (choice (first_of m) (slot_bytes y)) (first_of m) (slot_bytes y) = stored_is m' ∙ ap₂ (λ (a b : List ℕ). held (choice a b) a b) p q in (
        ⊎_elim
            (λ h. record { valid = shown _ _ (c' ∙ h.0) first_is; slot = inr (s' ∙ h.1 ∙ sym old) })
            (λ h. record { valid = shown _ _ (c' ∙ h.0) second_is; slot = inl (s' ∙ h.1 ∙ slot_back y w) })
            (either_held (first_of m) (slot_bytes y) va (slot_valid y)),
        λ h. s' ∙ second_newer (first_of m) (slot_bytes y) va (slot_valid y) (rw (slot_back y w, ← old) h) ∙ slot_back y w,
      )

  from_second : first_of m' ≡ slot_bytes y → second_of m' ≡ second_of m → FittingSlot y → current_of m ≡ Second
      → Overwritten m m' y × ((stored_slot m).promise < y.promise → stored_slot m' ≡ y)
  from_second p q w e =
      let vb = choice_second (first_of m) (second_of m) (sym (current_is m) ∙ e) in
      let old : stored_slot m ≡ slot_of (second_of m) = stored_by Second m e in
      let c' : current_of m' ≡ choice (slot_bytes y) (second_of m) = current_is m' ∙ ap₂ choice p q in
      let s' : stored_slot m' ≡ held (choice (slot_bytes y) (second_of m)) (slot_bytes y) (second_of m) = stored_is m' ∙ ap₂ (λ (a b : List ℕ). held (choice a b) a b) p q in (
        ⊎_elim
            (λ h. record { valid = shown _ _ (c' ∙ h.0) first_is; slot = inl (s' ∙ h.1 ∙ slot_back y w) })
            (λ h. record { valid = shown _ _ (c' ∙ h.0) second_is; slot = inr (s' ∙ h.1 ∙ sym old) })
            (either_held (slot_bytes y) (second_of m) (slot_valid y) vb),
        λ h. s' ∙ first_newer (slot_bytes y) (second_of m) (slot_valid y) vb (rw (slot_back y w, ← old) h) ∙ slot_back y w,
      )

module _ (m : List ℕ) (room : slots_size ≤ length m) where
  over_first : (bs : List ℕ) → length bs ≡ slot_size → (first_of (write_at 0 bs m) ≡ bs) × (second_of (write_at 0 bs m) ≡ second_of m)
  over_first bs l = (
    ap (λ (n : ℕ). part 0 n (write_at 0 bs m)) (sym l) ∙ part_write 0 bs m (omega arith),
    part_after 0 slot_size slot_size bs m (omega arith) (omega arith),
  )

  over_second : (bs : List ℕ) → length bs ≡ slot_size → (first_of (write_at slot_size bs m) ≡ first_of m) × (second_of (write_at slot_size bs m) ≡ bs)
  over_second bs l = (
    part_before slot_size 0 slot_size bs m (omega arith) (omega arith),
    ap (λ (n : ℕ). part slot_size n (write_at slot_size bs m)) (sym l) ∙ part_write slot_size bs m (omega arith),
  )

  -- a slot over the one that is not current
  pub slot_over : (c : Current) (y : Slot) → current_of m ≡ c → HasSlot m → FittingSlot y → let m' = write_at (other_at c) (slot_bytes y) m in
      Overwritten m m' y × ((stored_slot m).promise < y.promise → stored_slot m' ≡ y)
  slot_over First y e ne w =
      let o = over_second (slot_bytes y) (slot_length y) in
      from_first m (write_at slot_size (slot_bytes y) m) y o.0 o.1 w e
  slot_over Second y e ne w =
      let o = over_first (slot_bytes y) (slot_length y) in
      from_second m (write_at 0 (slot_bytes y) m) y o.0 o.1 w e
  slot_over Neither y e ne w = absurd (ne e)

  -- bytes that are no slot there leave the current one
  pub slot_torn : (c : Current) (bs : List ℕ) → current_of m ≡ c → HasSlot m → length bs ≡ slot_size → valid_slot bs ≡ false → let m' = write_at (other_at c) bs m in
      HasSlot m' × (stored_slot m' ≡ stored_slot m)
  slot_torn First bs e ne l v =
      let m' = write_at slot_size bs m in
      let o = over_second bs l in
      let c' : current_of m' ≡ First = current_is m' ∙ ap₂ choice o.0 o.1 ∙ alone_first (first_of m) bs (choice_first (first_of m) (second_of m) (sym (current_is m) ∙ e)) v in
      (shown _ _ c' first_is, stored_by First m' c' ∙ ap slot_of o.0 ∙ sym (stored_by First m e))
  slot_torn Second bs e ne l v =
      let m' = write_at 0 bs m in
      let o = over_first bs l in
      let c' : current_of m' ≡ Second = current_is m' ∙ ap₂ choice o.0 o.1 ∙ alone_second bs (second_of m) v (choice_second (first_of m) (second_of m) (sym (current_is m) ∙ e)) in
      (shown _ _ c' second_is, stored_by Second m' c' ∙ ap slot_of o.1 ∙ sym (stored_by Second m e))
  slot_torn Neither bs e ne l v = absurd (ne e)

-- two valid slots that hold the same: it is stored
pub stored_of_two : (m : List ℕ) → valid_slot (first_of m) ≡ true → valid_slot (second_of m) ≡ true → slot_of (first_of m) ≡ slot_of (second_of m)
    → HasSlot m × (stored_slot m ≡ slot_of (first_of m))
stored_of_two m va vb e =
    ⊎_elim
    (λ h. (shown _ _ (current_is m ∙ h.0) first_is, stored_is m ∙ h.1))
    (λ h. (shown _ _ (current_is m ∙ h.0) second_is, stored_is m ∙ h.1 ∙ sym e))
    (either_held (first_of m) (second_of m) va vb)
