-- A RESTORE, as laws in the words and numbers of document 02, No. 10. It is answered exactly if the bytes are 64 + 72 N with a valid slot and the refusals that it
-- shares with other calls have nothing to say (`allowed`); its list has the numbers 1, 2, 4, 21 and 30 in this order (`numbers`), and no other call is declined
-- by 30 (`only_restore`). It changes the register's session, one entry and one medium, and nothing else (`nothing_else`), and both slots of this medium have the
-- raised session and the bytes' two low-water marks (`both_slots`; the rest of the medium is proofs/Restores).
-- Why, beside the definitions: the guarantee holds without most of this. A restore that declined good bytes, cleared the entry's session, raised the generation
-- or forgot the local low-water mark would lose no booking.
-- The statements come first, then their proofs.
-- Assumes nothing.
use mathlib.Core.Path.{◌≡◌, refl, sym, ap}
use mathlib.Core.Bool.{Bool, true, false, not, cond, true≢false}
use mathlib.Core.Logic.{◌↔◌, ◌⊎◌, inl, inr}
use mathlib.Core.List.{List, [], ◌∷◌, map}
use Prim.Native.Nat.{ℕ, ◌+◌, ◌*◌, ◌^◌, ◌<◌}
use lib.ListN.{length, set}
use lib.Dec.{eqb}
use lib.Seq.{get_or-set_same, get_or-set_other}
use borrow.Author.Tests.{not-false, eqb-true, eqb-false, eq-eqb, ne_eqb, leb-false, lt-leb}
use Rattle.base.proofs.Tests.{neither}
use Rattle.storage.specs.declared.slot.Current.TheVariants.{First, Second}
use Rattle.storage.specs.Slots.{slot_bytes, newer, slot_of, current_of, stored_slot, valid_slot, first_of as first_slot, second_of as secondSlot}
use Rattle.storage.specs.Operations.{medium_at}
use Rattle.segment.specs.declared.header.Stamp.{Stamp}
use Rattle.segment.specs.Pair.{Files}
use Rattle.cluster.specs.declared.Shape.{Shape}
use Rattle.cluster.specs.declared.Closing.TheVariants.{Restored}
use Rattle.cluster.specs.declared.Entry.{Entry}
use Rattle.cluster.specs.declared.Register.{Register}
use Rattle.cluster.specs.declared.Call.{Call}
use Rattle.cluster.specs.declared.Call.TheVariants as call
use Rattle.cluster.specs.State.{State, fresh_entry, entry_at}
use Rattle.cluster.specs.Replies.{ok, no}
use Rattle.cluster.specs.Refusals.{Input, outside, other_length, mark_above, is_neither, no_slot, rows_of, first_of}
use Rattle.cluster.specs.Effects.{no_bytes, restored_entry, restore_effect}
use Rattle.cluster.specs.Step.{effect, unless, step}
use Rattle.cluster.proofs.Rows.{passed}
use Rattle.cluster.proofs.Numbers.{making, mentions, other_number, ok_passes}
use Rattle.cluster.proofs.Declines.{effect_never_no}
use Rattle.cluster.proofs.Restores.{restores}

-- ================ the statements

-- ---- restore: why it is declined

-- "Restore uses refusals 1, 2, 4 and 21, and number 30 is given last, when the bytes have no valid slot"
pub record Allowed (h : Shape) (x : State) (i : ℕ) (backup : List ℕ) : Type 0 where
  pub shape : outside h (length x.media) (length x.tables) ≡ false  -- 1
  pub size : length backup ≡ 64 + 72 * h.places  -- 1: "a lent slice has another length"
  pub marks : mark_above h x.records ≡ false  -- 2
  pub named : i < h.replicas  -- 4
  pub below_top : x.records.register.session + 1 ≡ 2 ^ 64 → ⊥  -- 21
  pub slot : (valid_slot (first_slot backup) ≡ true) ⊎ (valid_slot (secondSlot backup) ≡ true)  -- 30

abbrev pub AllowedExactly : Type 0
AllowedExactly =
    (h : Shape) (x : State) (i : ℕ) (content locks given : List ℕ) (stamp : Stamp) (files : Files) (backup : List ℕ)
    → ((step h x (making (call.Restore i) content locks given stamp files backup)).reply ≡ ok ((x.records.register.session + 1) ∷ []))
    ↔ Allowed h x i backup

abbrev pub ItsNumbers : Type 0
ItsNumbers =
    (h : Shape) (x : State) (i : ℕ) (content locks given : List ℕ) (stamp : Stamp) (files : Files) (backup : List ℕ)
    → map (λ w. w.number) (rows_of h x (making (call.Restore i) content locks given stamp files backup)) ≡ 1 ∷ 2 ∷ 4 ∷ 21 ∷ 30 ∷ []

abbrev pub OnlyRestore : Type 0
OnlyRestore = (h : Shape) (x : State) (p : Input) (values : List ℕ) → (step h x p).reply ≡ no 30 values → (i : ℕ) × (p.call ≡ call.Restore i)

-- ---- restore: what it changes beside the medium

pub record Marked (g : Register) (i : ℕ) (k : Register) : Type 0 where
  pub raised : k.session ≡ g.session + 1  -- "raises the register's session"
  pub restored : (entry_at k.entries i).closing ≡ Restored  -- "marks the entry restored
  pub kept : (entry_at k.entries i).session ≡ (entry_at g.entries i).session  -- (its session kept)"
  pub others : (j : ℕ) → (i ≡ j → ⊥) → entry_at k.entries j ≡ entry_at g.entries j
  pub generation : k.generation ≡ g.generation

-- the register has an entry for the replica, as its type says
abbrev pub NothingElse : Type 0
NothingElse =
    (h : Shape) (x : State) (i : ℕ) (content locks given : List ℕ) (stamp : Stamp) (files : Files) (backup values : List ℕ)
    → let r = step h x (making (call.Restore i) content locks given stamp files backup) in
    i < length x.records.register.entries
    → r.reply ≡ ok values
    → Marked x.records.register i r.state.records.register
    × (r.state.records.servers ≡ x.records.servers)
    × (r.state.tables ≡ x.tables)
    × (r.bytes ≡ no_bytes)

-- "writes that session as promise in both slots, with the current slot's low-water marks": the raised session, and both marks of the bytes
abbrev pub BothSlots : Type 0
BothSlots =
    (h : Shape) (x : State) (i : ℕ) (content locks given : List ℕ) (stamp : Stamp) (files : Files) (backup values : List ℕ)
    → let r = step h x (making (call.Restore i) content locks given stamp files backup) in
    let m = medium_at h.places i r.state.media in
    let slot = slot_bytes (record { promise = x.records.register.session + 1; low = (stored_slot backup).low; local = (stored_slot backup).local }) in
    r.reply ≡ ok values
    → (first_slot m ≡ slot) × (secondSlot m ≡ slot)

-- ================ why a restore is declined

has_slot_lem : (m : List ℕ) → no_slot m ≡ false → (valid_slot (first_slot m) ≡ true) ⊎ (valid_slot (secondSlot m) ≡ true)
unfolding no_slot current_of
has_slot_lem m e = go (valid_slot (first_slot m)) refl (valid_slot (secondSlot m)) refl
  where
    go : (a : Bool) → valid_slot (first_slot m) ≡ a → (b : Bool) → valid_slot (secondSlot m) ≡ b
        → (valid_slot (first_slot m) ≡ true) ⊎ (valid_slot (secondSlot m) ≡ true)
    go true p b q = inl p
    go false p true q = inr q
    go false p false q = absurd (true≢false (rw (p, q) at e))

one_of_two : (c : Bool) → is_neither (cond c Second First) ≡ false
one_of_two true = refl
one_of_two false = refl

a_slot : (m : List ℕ) → (valid_slot (first_slot m) ≡ true) ⊎ (valid_slot (secondSlot m) ≡ true) → no_slot m ≡ false
unfolding no_slot current_of
a_slot m (inl e) = rw e (go (valid_slot (secondSlot m)))
  where
    go : (b : Bool) → is_neither (cond b (cond (newer (slot_of (first_slot m)) (slot_of (secondSlot m))) Second First) First) ≡ false
    go true = one_of_two (newer (slot_of (first_slot m)) (slot_of (secondSlot m)))
    go false = refl
a_slot m (inr e) = rw e (go (valid_slot (first_slot m)))
  where
    go : (b : Bool) → is_neither (cond b (cond (newer (slot_of (first_slot m)) (slot_of (secondSlot m))) Second First) Second) ≡ false
    go true = one_of_two (newer (slot_of (first_slot m)) (slot_of (secondSlot m)))
    go false = refl

pub numbers : ItsNumbers
numbers h x i content locks given stamp files backup = refl

pub allowed : AllowedExactly
unfolding step unless first_of restore_effect other_length
allowed h x i content locks given stamp files backup =
    let p = making (call.Restore i) content locks given stamp files backup in (
      λ q.
          let none = passed (rows_of h x p) (ok_passes (rows_of h x p) x (effect h x p p.call) _ q) in
          let one = neither (outside h (length x.media) (length x.tables)) (other_length h.places backup) (none 1) in
          record {
            shape = one.0;
            size = eqb-true _ _ (not-false _ one.1);
            marks = none 2;
            named = leb-false h.replicas i (none 4);
            below_top = eqb-false _ _ (none 21);
            slot = has_slot_lem backup (none 30);
          },
      λ w.
          let size : other_length h.places backup ≡ false = ap not (eq-eqb _ _ w.size) in
          let named = lt-leb h.replicas i w.named in
          let top : eqb (x.records.register.session + 1) (2 ^ 64) ≡ false = ne_eqb _ _ w.below_top in
          rw (w.shape, size, w.marks, named, top, a_slot backup w.slot) refl,
    )

-- a call whose list does not have 30 is not declined by it
unmentioned : (h : Shape) (x : State) (p : Input) (values : List ℕ) → mentions 30 (rows_of h x p) ≡ false → (step h x p).reply ≡ no 30 values → ⊥
unfolding step
unmentioned h x p values e r = effect_never_no h x p 30 values (other_number (rows_of h x p) x (effect h x p p.call) 30 values e r)

by_restore : (h : Shape) (x : State) (content locks given : List ℕ) (stamp : Stamp) (files : Files) (backup values : List ℕ) (c : Call)
    → (step h x (making c content locks given stamp files backup)).reply ≡ no 30 values
    → (i : ℕ) × (c ≡ call.Restore i)
unfolding mentions
by_restore h x content locks given stamp files backup values (call.Restore i) r = (i, refl)
by_restore h x content locks given stamp files backup values (call.Take s f) r = absurd (unmentioned h x _ values refl r)
by_restore h x content locks given stamp files backup values (call.Prepare s i f) r = absurd (unmentioned h x _ values refl r)
by_restore h x content locks given stamp files backup values (call.Copy s a b f) r = absurd (unmentioned h x _ values refl r)
by_restore h x content locks given stamp files backup values (call.Trim s i f) r = absurd (unmentioned h x _ values refl r)
by_restore h x content locks given stamp files backup values (call.Open s f) r = absurd (unmentioned h x _ values refl r)
by_restore h x content locks given stamp files backup values (call.Issue s q) r = absurd (unmentioned h x _ values refl r)
by_restore h x content locks given stamp files backup values (call.Send s i f) r = absurd (unmentioned h x _ values refl r)
by_restore h x content locks given stamp files backup values (call.Note s i f) r = absurd (unmentioned h x _ values refl r)
by_restore h x content locks given stamp files backup values (call.Read s i n f) r = absurd (unmentioned h x _ values refl r)
by_restore h x content locks given stamp files backup values (call.Export s i f) r = absurd (unmentioned h x _ values refl r)
by_restore h x content locks given stamp files backup values (call.Stop s) r = absurd (unmentioned h x _ values refl r)
by_restore h x content locks given stamp files backup values call.Reassign r = absurd (unmentioned h x _ values refl r)

pub only_restore : OnlyRestore
only_restore h x p values r = by_restore h x p.content p.locks p.given p.stamp p.files p.backup values p.call r

-- ================ what else it changes

pub nothing_else : NothingElse
unfolding step unless restore_effect
nothing_else h x i content locks given stamp files backup values room q =
    let p = making (call.Restore i) content locks given stamp files backup in
    let through = ok_passes (rows_of h x p) x (effect h x p p.call) values q in
    let g = x.records.register in
    let e = restored_entry (entry_at g.entries i) in
    let same : entry_at (set g.entries i e) i ≡ e = get_or-set_same g.entries i e fresh_entry room in
    let marked : Marked g i (effect h x p p.call).state.records.register =
    record {
      raised = refl;
      restored = ap (λ (u : Entry). u.closing) same;
      kept = ap (λ (u : Entry). u.session) same;
      others = λ j d. get_or-set_other g.entries i j e fresh_entry (λ n. d (sym n));
      generation = refl;
    } in
    rw through (marked, refl, refl, refl)

pub both_slots : BothSlots
both_slots h x i content locks given stamp files backup values q =
    let w = (restores h x i content locks given stamp files backup values q).1 in
    (w.first, w.second)
