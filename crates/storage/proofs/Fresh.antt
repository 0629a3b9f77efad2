-- A fresh medium is sound, holds an empty log and a valid slot with all fields 0.
-- Assumes nothing.
use mathlib.Core.Path.{◌≡◌, refl, sym, ap, ◌∙◌}
use mathlib.Core.Bool.{false, false≢true}
use mathlib.Core.List.{List, ◌∷◌, ◌++◌}
use Prim.Native.Nat.{ℕ, zero, suc, ◌+◌, ◌-◌, ◌*◌, ◌≤◌}
use native.Mathlib.Omega.{arith}
use lib.Dec.{lit<}
use lib.ListN.{length, take, drop, replicate, length-append, length-replicate}
use lib.Seq.{take_at, drop_at, drop-drop}
use Rattle.storage.specs.Sizes.{slot_size, slots_size, place_size, medium_size, place_offset}
use Rattle.storage.specs.Places.{valid_place, wiped}
use Rattle.storage.specs.Slots.{slot_bytes, slot_of, valid_slot, first_of, second_of, stored_slot, HasSlot}
use Rattle.storage.specs.Log.{place_at, mark_of, Sound}
use Rattle.storage.specs.Fresh.{blank_slot, fresh_medium}
use Rattle.storage.proofs.SlotReadBack.{slot_back, slot_length, slot_valid}
use Rattle.storage.proofs.Scan.{mark_le, log_valid}
use Rattle.storage.proofs.LogWrites.{wiped_invalid}
use Rattle.storage.proofs.SlotWrites.{stored_of_two}

pub record Fresh (N : ℕ) (m : List ℕ) : Type 0 where
  pub sound : Sound N m
  pub mark : mark_of N m ≡ 0
  pub valid : HasSlot m
  pub slot : stored_slot m ≡ blank_slot

-- ---- lists

take_replicate : (k n : ℕ) → k ≤ n → take k (replicate {A = ℕ} n 0) ≡ replicate k 0
take_replicate zero n h = refl
take_replicate (suc k) zero h = absurd (omega arith)
take_replicate (suc k) (suc n) h = ap (λ (l : List ℕ). 0 ∷ l) (take_replicate k n (omega arith))

drop_replicate : (k n : ℕ) → drop k (replicate {A = ℕ} n 0) ≡ replicate (n - k) 0
drop_replicate zero n = let q : n ≡ n - 0 = omega arith in ap (λ (i : ℕ). replicate i 0) q
drop_replicate (suc k) zero = let q : 0 ≡ 0 - suc k = omega arith in ap (λ (i : ℕ). replicate i 0) q
drop_replicate (suc k) (suc n) = let q : n - k ≡ suc n - suc k = omega arith in drop_replicate k n ∙ ap (λ (i : ℕ). replicate i 0) q

module _ (N : ℕ) where
  abbrev slot₀ : List ℕ
  slot₀ = slot_bytes blank_slot

  abbrev places₀ : List ℕ
  places₀ = replicate {A = ℕ} (place_size * N) 0

  fresh_size : length (fresh_medium N) ≡ medium_size N
  unfolding fresh_medium
  fresh_size = simp (length-append, length-replicate) (omega (arith, slot_length blank_slot))

  behind_first : drop slot_size (fresh_medium N) ≡ slot₀ ++ places₀
  unfolding fresh_medium
  behind_first = drop_at slot₀ (slot₀ ++ places₀) slot_size (slot_length blank_slot)

  first_fresh : first_of (fresh_medium N) ≡ slot₀
  unfolding fresh_medium
  first_fresh = take_at slot₀ (slot₀ ++ places₀) slot_size (slot_length blank_slot)

  second_fresh : second_of (fresh_medium N) ≡ slot₀
  second_fresh = ap (take slot_size) behind_first ∙ take_at slot₀ places₀ slot_size (slot_length blank_slot)

  behind_slots : drop slots_size (fresh_medium N) ≡ places₀
  behind_slots =
      sym (drop-drop slot_size slot_size (fresh_medium N)) ∙ ap (drop slot_size) behind_first ∙ drop_at slot₀ places₀ slot_size (slot_length blank_slot)

  place_fresh : (n : ℕ) → 1 ≤ n → n ≤ N → place_at n (fresh_medium N) ≡ wiped
  unfolding place_at wiped
  place_fresh n lo hi =
      let o = place_size * (n - 1) in
      let q : slots_size + o ≡ place_offset n = refl in
      ap (take place_size) (sym (drop-drop o slots_size (fresh_medium N)) ∙ ap (drop o) behind_slots ∙ drop_replicate o (place_size * N))
      ∙ take_replicate place_size (place_size * N - o) (omega arith)

  no_mark : (k : ℕ) → mark_of N (fresh_medium N) ≡ suc k → ⊥
  no_mark k e =
      let v = log_valid N 0 (fresh_medium N) (omega arith) in
      let hi : 1 ≤ N = omega (arith, mark_le N (fresh_medium N)) in
      let w : valid_place 1 (place_at 1 (fresh_medium N)) ≡ false = ap (valid_place 1) (place_fresh 1 (omega arith) hi) ∙ wiped_invalid 1 (omega arith) in
      false≢true (sym w ∙ v)

  mark_fresh : mark_of N (fresh_medium N) ≡ 0
  mark_fresh = go (mark_of N (fresh_medium N)) refl
    where
      go : (k : ℕ) → mark_of N (fresh_medium N) ≡ k → mark_of N (fresh_medium N) ≡ 0
      go zero e = e
      go (suc k) e = absurd (no_mark k e)

  pub fresh_medium_lem : Fresh N (fresh_medium N)
  fresh_medium_lem =
      let b = stored_of_two (fresh_medium N) (ap valid_slot first_fresh ∙ slot_valid blank_slot) (ap valid_slot second_fresh ∙ slot_valid blank_slot) (ap slot_of (first_fresh ∙ sym second_fresh)) in
      record {
        sound = record { size = fresh_size; clean = λ n h l. ap (valid_place n) (place_fresh n (omega arith) l) ∙ wiped_invalid n (omega arith) };
        mark = mark_fresh;
        valid = b.0;
        slot = b.1 ∙ ap slot_of first_fresh ∙ slot_back blank_slot (record { promise = lit< tt; low = lit< tt; local = lit< tt });
      }
