-- The storage layer's promises: all that the servers and the guarantee rely on. Each operation under each fate, cut at any write.
--
--   append     a valid record behind the log is one more of it; old and torn leave the log             appends
--   trim       a prefix not shorter than the target, exactly the target if complete                   trims, trims-all, trims-none
--   prepare    nothing yet, or the new promise and then a prefix that reaches the target's mark       prepares, prepares-all
--   note       the log and the promise stay                                                           notes
--   torn       given bytes that pass as no slot and as no place leave an invalid slot or place        torn-place-left, torn-slot-left
--   place writes leave both slots (SlotsKept), slot writes leave every place (PlacesKept), and "no valid place above the mark"
--   (Sound) is kept by every operation.
-- Assumes nothing.
use mathlib.Core.Path.{◌≡◌, refl, sym, ap, ◌∙◌, subst, subst⁻¹}
use mathlib.Core.Logic.{◌⊎◌, inl, inr}
use mathlib.Core.Bool.{true, false}
use mathlib.Core.List.{List, [], ◌∷◌, ◌++◌}
use Prim.Native.Nat.{ℕ, zero, suc, ◌+◌, ◌-◌, ◌≤◌, ◌<◌, ◌^◌, min}
use native.Mathlib.Omega.{arith}
use native.Mathlib.Decide.{dec_le, ℕ_discrete}
use lib.ListN.{length, take, length-take}
use lib.Seq.{take-length, take_all}
use Rattle.octets.specs.Octets.{write_at}
use Rattle.octets.proofs.Laws.{part_after}
use Rattle.fate.specs.declared.Left.{Left}
use Rattle.fate.specs.declared.Left.TheVariants.{Old, New, Torn}
use Rattle.fate.specs.declared.Fate.{Fate}
use Rattle.fate.specs.declared.Fate.TheVariants.{Answered}
use Rattle.fate.specs.Fates.{Write, all_of, leave, after}
use Rattle.fate.specs.Numbered.{effect_of, after_from}
use Rattle.fate.proofs.Laws.{numbered, from_answered, from_one, from_append, stops, length_leave}
use Rattle.storage.specs.declared.slot.Slot.{Slot}
use Rattle.storage.specs.declared.slot.Current.{Current}
use Rattle.storage.specs.declared.operation.Target.{Target}
use Rattle.storage.specs.declared.operation.Target.TheVariants.{Whole, Mark, LowWater}
use Rattle.storage.specs.Sizes.{slot_size, slots_size, place_size, medium_size, place_offset}
use Rattle.storage.specs.Places.{valid_place, wiped}
use Rattle.storage.specs.Slots.{slot_bytes, valid_slot, current_of, stored_slot, other_at, HasSlot, FittingSlot}
use Rattle.storage.specs.Log.{place_at, log_of, mark_of, Sound}
use Rattle.storage.specs.Operations.{slot_write, place_write, wipes, promising, closing, closed_mark, prepare_writes, trim_writes, append_writes, note_writes}
use Rattle.storage.specs.Given.{Harmless}
use Rattle.storage.proofs.SlotReadBack.{slot_length}
use Rattle.storage.proofs.Scan.{mark_le}
use Rattle.storage.proofs.Writing.{other_le, promised, not_promised}
use Rattle.storage.proofs.Wiping.{wiping_end}
use Rattle.storage.proofs.Blocks.{place_same}
use Rattle.storage.proofs.LogWrites.{length_wiped, log_more, log_cut, log_kept}
use Rattle.storage.proofs.SlotWrites.{current_kept, stored_kept, slot_over, slot_torn}
use Rattle.storage.proofs.Truncating.{Shortened, no_change, torn_place, torn_slot, mark_is, truncated, truncated_all}

-- ================ the words of the promises

-- both slots, so also which is current and what it holds, are as they were
pub record SlotsKept (m m' : List ℕ) : Type 0 where
  pub current : current_of m' ≡ current_of m
  pub slot : stored_slot m' ≡ stored_slot m

abbrev pub PlacesKept : List ℕ → List ℕ → Type 0
PlacesKept m m' = (n : ℕ) → 1 ≤ n → place_at n m' ≡ place_at n m

-- the log after a write of the record behind it that is new, old or torn
abbrev pub grown : Left → List ℕ → List (List ℕ) → List (List ℕ)
grown New bs l = l ++ (bs ∷ [])
grown Old bs l = l
grown Torn bs l = l

pub record Appended (N : ℕ) (f : Fate) (bs m m' : List ℕ) : Type 0 where
  pub log : log_of N m' ≡ grown (effect_of f 1) bs (log_of N m)
  pub sound : Sound N m'
  pub slots : SlotsKept m m'

pub record Trimmed (N t : ℕ) (m m' : List ℕ) : Type 0 where
  pub shortened : Shortened N t m m'
  pub slots : SlotsKept m m'

-- the slot that prepare writes, and the log that it leaves once complete
abbrev pub promised_slot : ℕ → Slot → Slot
promised_slot s x = record { promise = s; low = x.low; local = x.local }

abbrev pub closed_by : ℕ → Target → List (List ℕ) → List (List ℕ)
closed_by low Whole l = l
closed_by low (Mark t) l = take t l
closed_by low LowWater l = take low l

-- prepare, cut anywhere: nothing yet, or the promise is written and the log is a prefix that reaches the closing mark
pub record Prepared (N s : ℕ) (to : Target) (m m' : List ℕ) : Type 0 where
  pub sound : Sound N m'
  pub valid : HasSlot m'
  pub stage : ((stored_slot m' ≡ stored_slot m) × (log_of N m' ≡ log_of N m))
      ⊎ ((stored_slot m' ≡ promised_slot s (stored_slot m)) × Shortened N (closed_mark (stored_slot m).low to (mark_of N m)) m m')

pub record Noted (N : ℕ) (y : Slot) (m m' : List ℕ) : Type 0 where
  pub log : log_of N m' ≡ log_of N m
  pub sound : Sound N m'
  pub valid : HasSlot m'
  pub slot : (stored_slot m' ≡ y) ⊎ (stored_slot m' ≡ stored_slot m)

-- ================ one write

old_is : Old ≡ New → ⊥
old_is e = let z : ◌≡◌ {A = ℕ} 0 1 = cc in omega arith

torn_is : Torn ≡ New → ⊥
torn_is e = let z : ◌≡◌ {A = ℕ} 0 1 = cc in omega arith

nothing_above : (n t : ℕ) → n ≤ t → n - t ≡ 0
nothing_above n t h = omega arith

wipes_none : (t : ℕ) → wipes t 0 ≡ []
unfolding wipes
wipes_none t = refl

pub all_first : (x : Write) (xs : List Write) (m : List ℕ) → all_of (x ∷ xs) m ≡ all_of xs (write_at x.at x.bytes m)
unfolding all_of
all_first x xs m = refl

kept_then : (m m₁ m₂ : List ℕ) → SlotsKept m m₁ → SlotsKept m₁ m₂ → SlotsKept m m₂
kept_then m m₁ m₂ a b = record { current = b.current ∙ a.current; slot = b.slot ∙ a.slot }

-- a place write leaves both slots
pub place_write_slots : (N j : ℕ) (g bs m : List ℕ) (x : Left) → length m ≡ medium_size N → 1 ≤ j → j ≤ N → SlotsKept m (leave x g (place_write j bs) m)
unfolding leave
place_write_slots N j g bs m Old e lo hi = record { current = refl; slot = refl }
place_write_slots N j g bs m New e lo hi = record { current = current_kept N j m bs e lo hi; slot = stored_kept N j m bs e lo hi }
place_write_slots N j g bs m Torn e lo hi =
    let b = take (length bs) g in
    record { current = current_kept N j m b e lo hi; slot = stored_kept N j m b e lo hi }

slot_room : (c : Current) (y : Slot) → other_at c + length (slot_bytes y) ≤ slots_size
slot_room c y = omega (arith, other_le c, slot_length y)

torn_room : (c : Current) (y : Slot) (g : List ℕ) → other_at c + length (take (length (slot_bytes y)) g) ≤ slots_size
torn_room c y g = omega (arith, other_le c, slot_length y, length-take (length (slot_bytes y)) g)

-- a slot write leaves every place
pub slot_write_places : (c : Current) (y : Slot) (g m : List ℕ) (x : Left) → slots_size ≤ length m → PlacesKept m (leave x g (slot_write c y) m)
unfolding leave place_at
slot_write_places c y g m Old h n lo = refl
slot_write_places c y g m New h n lo = part_after (other_at c) (place_offset n) place_size (slot_bytes y) m (omega (arith, slot_room c y)) (omega (arith, other_le c))
slot_write_places c y g m Torn h n lo =
    part_after (other_at c) (place_offset n) place_size (take (length (slot_bytes y)) g) m (omega (arith, torn_room c y g)) (omega (arith, other_le c))

-- so also the log
slot_write_log : (N : ℕ) (c : Current) (y : Slot) (g m : List ℕ) (x : Left) → Sound N m
    → let m' = leave x g (slot_write c y) m in (log_of N m' ≡ log_of N m) × Sound N m'
unfolding leave
slot_write_log N c y g m Old s = (refl, s)
slot_write_log N c y g m New s = log_kept N m s (other_at c) (slot_bytes y) (slot_room c y)
slot_write_log N c y g m Torn s = log_kept N m s (other_at c) (take (length (slot_bytes y)) g) (torn_room c y g)

-- a torn write leaves an invalid place, or an invalid slot where it was to write one
pub torn_place_left : (N : ℕ) (f : Fate) (g m : List ℕ) → Harmless N f g → (k : ℕ) → effect_of f k ≡ Torn → length m ≡ medium_size N
    → (n : ℕ) (bs : List ℕ) → length bs ≡ place_size → 1 ≤ n → n ≤ N → valid_place n (place_at n (leave Torn g (place_write n bs) m)) ≡ false
unfolding leave
torn_place_left N f g m h k e s n bs l lo hi =
    let b = take (length bs) g in
    let same : b ≡ g = take_all (length bs) g (omega (arith, l, h.size)) in
    ap (valid_place n) (place_same N m b s n lo hi (ap length same ∙ h.size) ∙ same) ∙ torn_place N f g h k e n lo hi

pub torn_slot_left : (N : ℕ) (f : Fate) (g : List ℕ) → Harmless N f g → (k : ℕ) → effect_of f k ≡ Torn → valid_slot (take slot_size g) ≡ false
torn_slot_left N f g h k e = torn_slot N f g h k e

-- ================ append

module _ (N : ℕ) (f : Fate) (g m : List ℕ) (s : Sound N m) (h : Harmless N f g) where
  appended_as : (bs : List ℕ) → mark_of N m < N → length bs ≡ place_size → valid_place (mark_of N m + 1) bs ≡ true
      → (x : Left) → effect_of f 1 ≡ x → let m' = leave x g (place_write (mark_of N m + 1) bs) m in (log_of N m' ≡ grown x bs (log_of N m)) × Sound N m'
  unfolding leave
  appended_as bs r l v Old e = (refl, s)
  appended_as bs r l v New e = log_more N m s bs r l v
  appended_as bs r l v Torn e =
      let j = mark_of N m + 1 in
      let b = take (length bs) g in
      let same : b ≡ g = take_all (length bs) g (omega (arith, l, h.size)) in
      let c = log_cut N m s j b (omega arith) (omega arith) (ap length same ∙ h.size) (omega arith) (omega arith)
      (ap (valid_place j) same ∙ torn_place N f g h 1 e j (omega arith) (omega arith)) in
      let q : j - 1 ≡ length (log_of N m) = omega (arith, mark_is N m) in
      (c.0 ∙ ap (λ (i : ℕ). take i (log_of N m)) q ∙ take-length (log_of N m), c.1)

  pub appends : (bs : List ℕ) → mark_of N m < N → length bs ≡ place_size → valid_place (mark_of N m + 1) bs ≡ true
      → Appended N f bs m (after f g (append_writes (mark_of N m) bs) m)
  appends bs r l v =
      let x = place_write (mark_of N m + 1) bs in
      let e : leave (effect_of f 1) g x m ≡ after f g (x ∷ []) m = sym (from_one g 1 f x m) ∙ numbered g f (x ∷ []) m in
      let a = appended_as bs r l v (effect_of f 1) refl in
      subst (Appended N f bs m) e
      (record { log = a.0; sound = a.1; slots = place_write_slots N (mark_of N m + 1) g bs m (effect_of f 1) s.size (omega arith) (omega arith) })

-- ================ truncation

wipes_slots : (N t d k : ℕ) (f : Fate) (g m : List ℕ) → length g ≡ place_size → length m ≡ medium_size N → t + d ≤ N → SlotsKept m (after_from k f g (wipes t d) m)
unfolding after_from wipes
wipes_slots N t zero k f g m lg e h = record { current = refl; slot = refl }
wipes_slots N t (suc d) k f g m lg e h =
    let x = place_write (t + suc d) wiped in
    let m₁ = leave (effect_of f k) g x m in
    let n : length m₁ ≡ medium_size N = length_leave g (effect_of f k) x m (omega (arith, length_wiped)) (omega (arith, length_wiped)) ∙ e in
    kept_then m m₁ (after_from (k + 1) f g (wipes t d) m₁)
    (place_write_slots N (t + suc d) g wiped m (effect_of f k) e (omega arith) (omega arith)) (wipes_slots N t d (k + 1) f g m₁ lg n (omega arith))

module _ (N : ℕ) (f : Fate) (g m : List ℕ) (s : Sound N m) (h : Harmless N f g) where
  -- writes from k on, of a truncation to place t
  shortens : (t k : ℕ) → let m' = after_from k f g (wipes t (mark_of N m - t)) m in Shortened N (min t (mark_of N m)) m m' × SlotsKept m m'
  shortens t k = go (dec_le t (mark_of N m))
    where
      go : Dec (t ≤ mark_of N m) → let m' = after_from k f g (wipes t (mark_of N m - t)) m in Shortened N (min t (mark_of N m)) m m' × SlotsKept m m'
      go (yes p) =
          let q : min t (mark_of N m) ≡ t = omega arith in (
            rw q (truncated N t f g h (mark_of N m - t) k m s (omega arith)),
            wipes_slots N t (mark_of N m - t) k f g m h.size s.size (omega (arith, mark_le N m)),
          )
      go (no p) =
          let q : min t (mark_of N m) ≡ mark_of N m = omega (arith, p) in
          rw (wiping_end t (mark_of N m) k f g m (omega (arith, p)), q) (no_change N (mark_of N m) m s (omega arith), record { current = refl; slot = refl })

  pub trims : (t : ℕ) → Trimmed N (min t (mark_of N m)) m (after f g (trim_writes N t m) m)
  unfolding trim_writes
  trims t =
      let a = shortens t 1 in
      subst (Trimmed N (min t (mark_of N m)) m) (numbered g f (wipes t (mark_of N m - t)) m) (record { shortened = a.0; slots = a.1 })

-- a complete truncation leaves exactly the target, and one that has nothing to do makes no write
pub trims_all : (N t : ℕ) (m : List ℕ) → Sound N m → t ≤ mark_of N m → log_of N (all_of (trim_writes N t m) m) ≡ take t (log_of N m)
unfolding trim_writes
trims_all N t m s h = (truncated_all N t (mark_of N m - t) m s (omega arith)).0

pub trims_none : (N t : ℕ) (m : List ℕ) → mark_of N m ≤ t → trim_writes N t m ≡ []
unfolding trim_writes wipes
trims_none N t m h = ap (wipes t) (nothing_above (mark_of N m) t h)

-- ================ prepare

module _ (N : ℕ) (f : Fate) (g m : List ℕ) (s : Sound N m) (h : Harmless N f g) where
  -- the closing mark's truncation, writes from k on
  closes : (low : ℕ) (to : Target) (k : ℕ) → let m' = after_from k f g (closing (mark_of N m) low to) m in
      Shortened N (closed_mark low to (mark_of N m)) m m' × SlotsKept m m'
  unfolding closing after_from
  closes low Whole k = (no_change N (mark_of N m) m s (omega arith), record { current = refl; slot = refl })
  closes low (Mark t) k = shortens N f g m s h t k
  closes low LowWater k = shortens N f g m s h low k

moved : (N u : ℕ) (m m₁ m' : List ℕ) → log_of N m₁ ≡ log_of N m → Shortened N u m₁ m' → Shortened N u m m'
moved N u m m₁ m' e a =
    record {
      upto = a.upto;
      reaches = a.reaches;
      within = omega (arith, a.within, mark_is N m, mark_is N m₁, ap length e);
      log = a.log ∙ ap (take a.upto) e;
      sound = a.sound;
    }

valid_by : (m m' : List ℕ) → current_of m' ≡ current_of m → HasSlot m → HasSlot m'
valid_by m m' e h z = h (sym e ∙ z)

module _ (N : ℕ) (f : Fate) (g m : List ℕ) (s : Sound N m) (h : Harmless N f g) (p : ℕ) (to : Target) (ok : HasSlot m) (fit : FittingSlot (stored_slot m)) where
  -- the promise is the old one: only the truncation
  same_promise : (stored_slot m).promise ≡ p → Prepared N p to m (after_from 1 f g (closing (mark_of N m) (stored_slot m).low to) m)
  same_promise e =
      let a = closes N f g m s h (stored_slot m).low to 1 in
      let x = stored_slot m in
      let renamed : x ≡ promised_slot p x = λ i. record { promise = e i; low = x.low; local = x.local } in
      record {
        sound = a.0.sound;
        valid = valid_by m _ a.1.current ok;
        stage = inr (a.1.slot ∙ renamed, a.0);
      }

  -- the promise is a new one: the slot write is old, new or torn, and the truncation follows only where it is new
  new_promise : (stored_slot m).promise < p → p < 2 ^ 64 → (v : Left) → effect_of f 1 ≡ v
      → Prepared N p to m (after_from 2 f g (closing (mark_of N m) (stored_slot m).low to) (leave v g (slot_write (current_of m) (promised_slot p (stored_slot m))) m))
  unfolding leave
  new_promise lt w Old e =
      subst⁻¹ (Prepared N p to m) (stops g f 1 (λ z. old_is (sym e ∙ z)) (closing (mark_of N m) (stored_slot m).low to) m)
      (record { sound = s; valid = ok; stage = inl (refl, refl) })
  new_promise lt w New e =
      let c = current_of m in
      let y = promised_slot p (stored_slot m) in
      let m₁ = write_at (other_at c) (slot_bytes y) m in
      let r = slot_write_log N c y g m New s in
      let o = slot_over m (omega (arith, s.size)) c y refl ok (record { promise = w; low = fit.low; local = fit.local }) in
      let n : mark_of N m₁ ≡ mark_of N m = mark_is N m₁ ∙ ap length r.0 ∙ sym (mark_is N m) in
      let a = rw n at (closes N f g m₁ r.1 h (stored_slot m).low to 2) in
      record {
        sound = a.0.sound;
        valid = valid_by m₁ _ a.1.current o.0.valid;
        stage = inr (a.1.slot ∙ o.1 lt, moved N (closed_mark (stored_slot m).low to (mark_of N m)) m m₁ _ r.0 a.0);
      }
  new_promise lt w Torn e =
      let c = current_of m in
      let y = promised_slot p (stored_slot m) in
      let b = take (length (slot_bytes y)) g in
      let l : length b ≡ slot_size = length-take (length (slot_bytes y)) g ∙ omega (arith, slot_length y, h.size) in
      let v : valid_slot b ≡ false = ap (λ (k : ℕ). valid_slot (take k g)) (slot_length y) ∙ torn_slot N f g h 1 e in
      let r = slot_write_log N c y g m Torn s in
      let o = slot_torn m (omega (arith, s.size)) c b refl ok l v in
      subst⁻¹ (Prepared N p to m) (stops g f 1 (λ z. torn_is (sym e ∙ z)) (closing (mark_of N m) (stored_slot m).low to) (write_at (other_at c) b m))
      (record { sound = r.1; valid = o.0; stage = inl (o.1, r.0) })

  pub prepares : (stored_slot m).promise ≤ p → p < 2 ^ 64 → Prepared N p to m (after f g (prepare_writes N p to m) m)
  unfolding prepare_writes
  prepares le w = go (ℕ_discrete (stored_slot m).promise p)
    where
      go : Dec ((stored_slot m).promise ≡ p) → Prepared N p to m (after f g (promising (current_of m) (stored_slot m) p ++ closing (mark_of N m) (stored_slot m).low to) m)
      go (yes e) =
          rw (not_promised (current_of m) (stored_slot m) p e)
          (subst (Prepared N p to m) (numbered g f (closing (mark_of N m) (stored_slot m).low to) m) (same_promise e))
      go (no ne) =
          let y = slot_write (current_of m) (promised_slot p (stored_slot m)) in
          rw (promised (current_of m) (stored_slot m) p ne)
          (subst (Prepared N p to m) (sym (from_append g 1 f (y ∷ []) (closing (mark_of N m) (stored_slot m).low to) m) ∙ numbered g f (y ∷ closing (mark_of N m) (stored_slot m).low to) m)
          (rw (from_one g 1 f y m) (new_promise (omega (arith, ne)) w (effect_of f 1) refl)))

-- a complete prepare leaves the new promise and the log up to the closing mark
pub record Closed (N p : ℕ) (to : Target) (m m' : List ℕ) : Type 0 where
  pub slot : stored_slot m' ≡ promised_slot p (stored_slot m)
  pub log : log_of N m' ≡ closed_by (stored_slot m).low to (log_of N m)

wipes_all : (N : ℕ) (m : List ℕ) → Sound N m → (t : ℕ) → let m' = all_of (wipes t (mark_of N m - t)) m in (log_of N m' ≡ take t (log_of N m)) × SlotsKept m m'
unfolding all_of
wipes_all N m s t = go (dec_le t (mark_of N m))
  where
    go : Dec (t ≤ mark_of N m) → let m' = all_of (wipes t (mark_of N m - t)) m in (log_of N m' ≡ take t (log_of N m)) × SlotsKept m m'
    go (yes p) = (
      (truncated_all N t (mark_of N m - t) m s (omega arith)).0,
      subst (SlotsKept m) (from_answered wiped 1 (wipes t (mark_of N m - t)) m)
          (wipes_slots N t (mark_of N m - t) 1 Answered wiped m length_wiped s.size (omega (arith, mark_le N m))),
    )
    go (no p) =
        rw (ap (λ (d : ℕ). wipes t d) (nothing_above (mark_of N m) t (omega (arith, p))), wipes_none t)
        (sym (take_all t (log_of N m) (omega (arith, p, mark_is N m))), record { current = refl; slot = refl })

closes_all : (N low : ℕ) (m : List ℕ) → Sound N m → (to : Target) → let m' = all_of (closing (mark_of N m) low to) m in
    (log_of N m' ≡ closed_by low to (log_of N m)) × SlotsKept m m'
unfolding closing all_of
closes_all N low m s Whole = (refl, record { current = refl; slot = refl })
closes_all N low m s (Mark t) = wipes_all N m s t
closes_all N low m s LowWater = wipes_all N m s low

pub prepares_all : (N p : ℕ) (to : Target) (m : List ℕ) → Sound N m → HasSlot m → FittingSlot (stored_slot m) → (stored_slot m).promise ≤ p → p < 2 ^ 64
    → Closed N p to m (all_of (prepare_writes N p to m) m)
unfolding prepare_writes
prepares_all N p to m s ok fit le w = go (ℕ_discrete (stored_slot m).promise p)
  where
    go : Dec ((stored_slot m).promise ≡ p) → Closed N p to m (all_of (promising (current_of m) (stored_slot m) p ++ closing (mark_of N m) (stored_slot m).low to) m)
    go (yes e) =
        let a = closes_all N (stored_slot m).low m s to in
        let x = stored_slot m in
        let renamed : x ≡ promised_slot p x = λ i. record { promise = e i; low = x.low; local = x.local } in
        rw (not_promised (current_of m) (stored_slot m) p e) (record { slot = a.1.slot ∙ renamed; log = a.0 })
    go (no ne) =
        let c = current_of m in
        let y = promised_slot p (stored_slot m) in
        let m₁ = write_at (other_at c) (slot_bytes y) m in
        let r = log_kept N m s (other_at c) (slot_bytes y) (slot_room c y) in
        let o = slot_over m (omega (arith, s.size)) c y refl ok (record { promise = w; low = fit.low; local = fit.local }) in
        let n : mark_of N m₁ ≡ mark_of N m = mark_is N m₁ ∙ ap length r.0 ∙ sym (mark_is N m) in
        let a = rw n at (closes_all N (stored_slot m).low m₁ r.1 to) in
        rw (promised (current_of m) (stored_slot m) p ne, all_first (slot_write c y) (closing (mark_of N m) (stored_slot m).low to) m)
        (record { slot = a.1.slot ∙ o.1 (omega (arith, ne)); log = a.0 ∙ ap (closed_by (stored_slot m).low to) r.0 })

-- ================ note

module _ (N : ℕ) (f : Fate) (g m : List ℕ) (s : Sound N m) (h : Harmless N f g) (low local : ℕ) (ok : HasSlot m) where
  abbrev noted_slot : Slot
  noted_slot = record { promise = (stored_slot m).promise; low = low; local = local }

  noted_as : FittingSlot noted_slot → (v : Left) → effect_of f 1 ≡ v → Noted N noted_slot m (leave v g (slot_write (current_of m) noted_slot) m)
  unfolding leave
  noted_as w Old e = record { log = refl; sound = s; valid = ok; slot = inr refl }
  noted_as w New e =
      let r = slot_write_log N (current_of m) noted_slot g m New s in
      let o = (slot_over m (omega (arith, s.size)) (current_of m) noted_slot refl ok w).0 in
      record { log = r.0; sound = r.1; valid = o.valid; slot = o.slot }
  noted_as w Torn e =
      let b = take (length (slot_bytes noted_slot)) g in
      let l : length b ≡ slot_size = length-take (length (slot_bytes noted_slot)) g ∙ omega (arith, slot_length noted_slot, h.size) in
      let v : valid_slot b ≡ false = ap (λ (k : ℕ). valid_slot (take k g)) (slot_length noted_slot) ∙ torn_slot N f g h 1 e in
      let r = slot_write_log N (current_of m) noted_slot g m Torn s in
      let o = slot_torn m (omega (arith, s.size)) (current_of m) b refl ok l v in
      record { log = r.0; sound = r.1; valid = o.0; slot = inr o.1 }

  pub notes : FittingSlot noted_slot → Noted N noted_slot m (after f g (note_writes low local m) m)
  unfolding note_writes
  notes w =
      let y = slot_write (current_of m) noted_slot in
      subst (Noted N noted_slot m) (sym (from_one g 1 f y m) ∙ numbered g f (y ∷ []) m) (noted_as w (effect_of f 1) refl)
