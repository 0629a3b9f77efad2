-- What a restore that is answered leaves, as a reader of the media finds it. Document 02, No. 10: restore "writes [the bytes] over [the medium] .. and writes
-- that session as promise in both slots, with the current slot's low-water marks .. and answers the session". The statement comes first, then its proof; the
-- theorem is `restores`.
-- Assumes nothing.
use mathlib.Core.Path.{◌≡◌, sym, ap, ◌∙◌}
use mathlib.Core.List.{List, [], ◌∷◌}
use Prim.Native.Nat.{ℕ, ◌+◌, ◌≤◌}
use native.Mathlib.Omega.{arith}
use lib.ListN.{length}
use borrow.Author.Tests.{not-false, eqb-true, leb-false}
use Rattle.octets.specs.Octets.{part, write_at}
use Rattle.octets.proofs.Laws.{length_write, part_write, part_after}
use Rattle.base.proofs.Tests.{neither}
use Rattle.segment.specs.declared.header.Stamp.{Stamp}
use Rattle.segment.specs.Pair.{Files}
use Rattle.storage.specs.declared.slot.Slot.{Slot}
use Rattle.storage.specs.Sizes.{slot_size, place_size, place_offset, medium_size}
use Rattle.storage.specs.Slots.{slot_bytes, slot_of, valid_slot, first_of as first_slot, second_of as secondSlot, stored_slot, HasSlot, FittingSlot}
use Rattle.storage.specs.Log.{place_at, mark_of}
use Rattle.storage.specs.Operations.{medium_at}
use Rattle.storage.proofs.SlotReadBack.{slot_back, slot_length, slot_valid}
use Rattle.storage.proofs.SlotWrites.{stored_of_two}
use Rattle.storage.proofs.Marks.{mark_kept}
use Rattle.cluster.specs.declared.Shape.{Shape}
use Rattle.cluster.specs.declared.Call.TheVariants as call
use Rattle.cluster.specs.State.{State}
use Rattle.cluster.specs.Replies.{Reply, ok, no, silent}
use Rattle.cluster.specs.Refusals.{outside, other_length, rows_of}
use Rattle.cluster.specs.Effects.{restored_slot, restored_medium, restore_effect}
use Rattle.cluster.specs.Step.{effect, step, unless}
use Rattle.cluster.proofs.Blocks.{block_same, block_other}
use Rattle.cluster.proofs.AsStored.{media_size}
use Rattle.cluster.proofs.Rows.{passed}
use Rattle.cluster.proofs.Numbers.{making, ok_passes}

-- ---- the statement

-- the medium m that these bytes become under a session
pub record Restored (N session : ℕ) (backup m : List ℕ) : Type 0 where
  pub size : length m ≡ medium_size N
  pub first : first_slot m ≡ slot_bytes (restored_slot session backup)
  pub second : secondSlot m ≡ slot_bytes (restored_slot session backup)
  pub valid : HasSlot m
  pub reads : FittingSlot (restored_slot session backup) → stored_slot m ≡ restored_slot session backup
  -- the places are the bytes' own, and so is the mark
  pub places : (n : ℕ) → 1 ≤ n → place_at n m ≡ place_at n backup
  pub mark : mark_of N m ≡ mark_of N backup

abbrev pub Statement : Type 0
Statement =
    (h : Shape) (x : State) (i : ℕ) (content locks given : List ℕ) (stamp : Stamp) (files : Files) (backup values : List ℕ)
    → let r = step h x (making (call.Restore i) content locks given stamp files backup) in
    let session = x.records.register.session + 1 in
    r.reply ≡ ok values
    → (values ≡ session ∷ [])
    × Restored h.places session backup (medium_at h.places i r.state.media)
    × ((j : ℕ) → (i ≡ j → ⊥) → medium_at h.places j r.state.media ≡ medium_at h.places j x.media)

-- ---- the medium

module _ (N session : ℕ) (backup : List ℕ) (fits : length backup ≡ medium_size N) where
  abbrev slot : Slot
  slot = restored_slot session backup

  abbrev bytes : List ℕ
  bytes = slot_bytes slot

  abbrev one : List ℕ
  one = write_at slot_size bytes backup

  abbrev two : List ℕ
  two = write_at 0 bytes one

  one_length : length one ≡ medium_size N
  one_length = length_write slot_size bytes backup (omega (arith, slot_length slot, fits)) ∙ fits

  pub restored_length : length two ≡ medium_size N
  restored_length = length_write 0 bytes one (omega (arith, slot_length slot, one_length)) ∙ one_length

  first_is : first_slot two ≡ bytes
  first_is = ap (λ (n : ℕ). part 0 n two) (sym (slot_length slot)) ∙ part_write 0 bytes one (omega (arith, one_length))

  second_is : secondSlot two ≡ bytes
  second_is =
      part_after 0 slot_size slot_size bytes one (omega (arith, slot_length slot)) (omega (arith, one_length))
      ∙ ap (λ (n : ℕ). part slot_size n one) (sym (slot_length slot))
      ∙ part_write slot_size bytes backup (omega (arith, fits))

  places_kept : (n : ℕ) → 1 ≤ n → place_at n two ≡ place_at n backup
  unfolding place_at
  places_kept n l =
      part_after 0 (place_offset n) place_size bytes one (omega (arith, slot_length slot)) (omega (arith, one_length))
      ∙ part_after slot_size (place_offset n) place_size bytes backup (omega (arith, slot_length slot)) (omega (arith, fits))

  both : HasSlot two × (stored_slot two ≡ slot_of (first_slot two))
  both = stored_of_two two (ap valid_slot first_is ∙ slot_valid slot) (ap valid_slot second_is ∙ slot_valid slot) (ap slot_of (first_is ∙ sym second_is))

  pub restored : Restored N session backup two
  restored =
      record {
        size = restored_length;
        first = first_is;
        second = second_is;
        valid = both.0;
        reads = λ w. both.1 ∙ ap slot_of first_is ∙ slot_back slot w;
        places = places_kept;
        mark = mark_kept N backup two places_kept;
      }

-- ---- the call

abbrev answered : Reply → List ℕ
answered (ok values) = values
answered (no n values) = []
answered silent = []

pub restores : Statement
unfolding step unless restore_effect other_length
restores h x i content locks given stamp files backup values q =
    let p = making (call.Restore i) content locks given stamp files backup in
    let through = ok_passes (rows_of h x p) x (effect h x p p.call) values q in
    let none = passed (rows_of h x p) through in
    let N = h.places in
    let z = x.records.register.session + 1 in
    let one = neither (outside h (length x.media) (length x.tables)) (other_length N backup) (none 1) in
    let full : length backup ≡ medium_size N = eqb-true _ _ (not-false _ one.1) in
    let size = media_size h (length x.media) (length x.tables) one.0 in
    let named = leb-false h.replicas i (none 4) in
    let done = restored N z backup full in
    let q' : ok (z ∷ []) ≡ ok values = rw through at q in
    rw through
    ((
      sym (ap answered q'),
      rw (block_same (medium_size N) h.replicas i (restored_medium z backup) x.media named done.size size) done,
      λ j d. block_other (medium_size N) h.replicas i (restored_medium z backup) x.media named done.size size j d,
    ))
