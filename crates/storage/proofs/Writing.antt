-- What the steps of a replica's operations amount to: the writes of the definitions, under the fate.
-- Assumes nothing.
use mathlib.Core.Path.{◌≡◌, sym, ap, ap₂, ◌∙◌}
use mathlib.Core.Bool.{Bool, true, false, cond}
use mathlib.Core.List.{List, [], ◌∷◌, ◌++◌}
use Prim.Native.Nat.{ℕ, ◌+◌, ◌-◌, ◌≤◌}
use lib.Dec.{eqb, lit≤}
use lib.ListN.{length}
use borrow.Author.Tests.{eq-eqb, ne_eqb}
use Rattle.fate.specs.declared.Fate.{Fate}
use Rattle.fate.specs.Fates.{Write, leave, after}
use Rattle.fate.specs.Numbered.{effect_of, after_from}
use Rattle.fate.proofs.Laws.{numbered, from_append, from_one}
use Rattle.storage.specs.declared.slot.Slot.{Slot}
use Rattle.storage.specs.declared.slot.Current.{Current}
use Rattle.storage.specs.declared.slot.Current.TheVariants.{First, Second, Neither}
use Rattle.storage.specs.declared.operation.Target.{Target}
use Rattle.storage.specs.declared.operation.Read.{Read}
use Rattle.storage.specs.Sizes.{slot_size}
use Rattle.storage.specs.Slots.{current_of, held_of, stored_slot, other_at}
use Rattle.storage.specs.Log.{mark_of}
use Rattle.storage.specs.Operations.{slot_write, place_write, wipes, promising, closing, prepare_writes, trim_writes, append_writes, note_writes}
use Rattle.storage.specs.AsRead.{AsRead}

pub other_le : (c : Current) → other_at c ≤ slot_size
other_le First = lit≤ tt
other_le Second = lit≤ tt
other_le Neither = lit≤ tt

module _ (c : Current) (x : Slot) (s : ℕ) where
  pub promised : (x.promise ≡ s → ⊥) → promising c x s ≡ slot_write c (record { promise = s; low = x.low; local = x.local }) ∷ []
  unfolding promising
  promised h = rw (ne_eqb x.promise s h)

  pub not_promised : x.promise ≡ s → promising c x s ≡ []
  unfolding promising
  not_promised h = rw (eq-eqb x.promise s h)

  pub promising_le : length (promising c x s) ≤ 1
  unfolding promising
  promising_le = go (eqb x.promise s)
    where
      go : (b : Bool) → length (cond b [] (slot_write c (record { promise = s; low = x.low; local = x.local }) ∷ [])) ≤ 1
      go true = lit≤ tt
      go false = lit≤ tt

module _ (f : Fate) (g m : List ℕ) where
  pub appended : (n : ℕ) (bs l : List ℕ) → l ≡ leave (effect_of f 1) g (place_write (n + 1) bs) m → l ≡ after f g (append_writes n bs) m
  appended n bs l e = e ∙ sym (from_one g 1 f (place_write (n + 1) bs) m) ∙ numbered g f (append_writes n bs) m

module _ (r : Read) (f : Fate) (g m : List ℕ) (a : AsRead r m) where
  pub prepared : (s : ℕ) (to : Target) (k : ℕ) (l l' : List ℕ) → let w = promising r.current r.slot s in k ≡ 1 + length w
      → l ≡ after_from 1 f g w m → l' ≡ after_from k f g (closing r.mark r.slot.low to) l → l' ≡ after f g (prepare_writes r.places s to m) m
  unfolding prepare_writes stored_slot
  prepared s to k l l' e₁ e₂ e₃ =
      let c : r.current ≡ current_of m = a.current in
      let x : r.slot ≡ held_of (current_of m) m = a.slot ∙ ap (λ (i : Current). held_of i m) c in
      let w = promising r.current r.slot s in
      let ws : w ≡ promising (current_of m) (held_of (current_of m) m) s = ap₂ (λ (i : Current) (y : Slot). promising i y s) c x in
      e₃ ∙ ap₂ (λ (j : ℕ) (y : List ℕ). after_from j f g (closing r.mark r.slot.low to) y) e₁ e₂
      ∙ sym (from_append g 1 f w (closing r.mark r.slot.low to) m)
      ∙ ap₂ (λ (u : List Write) (n : ℕ). after_from 1 f g (u ++ closing n r.slot.low to) m) ws a.mark
      ∙ ap (λ (y : Slot). after_from 1 f g (promising (current_of m) (held_of (current_of m) m) s ++ closing (mark_of r.places m) y.low to) m) x
      ∙ numbered g f (promising (current_of m) (held_of (current_of m) m) s ++ closing (mark_of r.places m) (held_of (current_of m) m).low to) m

  pub trimmed : (to : ℕ) (l : List ℕ) → l ≡ after_from 1 f g (wipes to (r.mark - to)) m → l ≡ after f g (trim_writes r.places to m) m
  unfolding trim_writes
  trimmed to l e =
      e ∙ ap (λ (n : ℕ). after_from 1 f g (wipes to (n - to)) m) a.mark ∙ numbered g f (wipes to (mark_of r.places m - to)) m

  pub noted : (low local : ℕ) (l : List ℕ) → l ≡ leave (effect_of f 1) g (slot_write r.current (record { promise = r.slot.promise; low = low; local = local })) m
      → l ≡ after f g (note_writes low local m) m
  unfolding note_writes stored_slot
  noted low local l e =
      let c : r.current ≡ current_of m = a.current in
      let x : r.slot ≡ held_of (current_of m) m = a.slot ∙ ap (λ (i : Current). held_of i m) c in
      let w = slot_write (current_of m) (record { promise = (held_of (current_of m) m).promise; low = low; local = local }) in
      e ∙ ap₂ (λ (i : Current) (y : Slot). leave (effect_of f 1) g (slot_write i (record { promise = y.promise; low = low; local = local })) m) c x
      ∙ sym (from_one g 1 f w m) ∙ numbered g f (w ∷ []) m
