-- A medium's tie after each operation of a replica: note, trim, prepare, and a record behind the log.
-- Assumes nothing.
use mathlib.Core.Path.{◌≡◌, refl, sym, ap, ◌∙◌}
use mathlib.Core.Logic.{◌⊎◌, inl, inr, ⊎_elim}
use mathlib.Core.Bool.{true}
use mathlib.Core.List.{List, [], ◌∷◌, ◌++◌}
use mathlib.Core.Option.{Option}
use Prim.Native.Nat.{ℕ, suc, ◌+◌, ◌^◌, ◌≤◌, ◌<◌, min}
use native.Mathlib.Omega.{arith}
use native.Mathlib.Decide.{dec_le}
use lib.ListN.{length, take}
use lib.Seq.{take-length, take_all}
use Rattle.fate.specs.declared.Left.{Left}
use Rattle.fate.specs.declared.Left.TheVariants.{Old, New, Torn}
use Rattle.fate.specs.declared.Fate.{Fate}
use Rattle.fate.specs.declared.Fate.TheVariants.{Answered}
use Rattle.fate.specs.Fates.{Write, all_of, after}
use Rattle.fate.specs.Numbered.{effect_of}
use Rattle.storage.specs.declared.slot.Slot.{Slot}
use Rattle.storage.specs.declared.operation.Target.{Target}
use Rattle.storage.specs.declared.operation.Target.TheVariants.{Whole, Mark, LowWater}
use Rattle.storage.specs.Places.{valid_place}
use Rattle.storage.specs.Slots.{stored_slot, FittingSlot}
use Rattle.storage.specs.Log.{log_of, mark_of, Sound}
use Rattle.storage.specs.Operations.{closed_mark, prepare_writes, trim_writes, append_writes, note_writes}
use Rattle.storage.specs.Given.{Harmless}
use Rattle.storage.proofs.PlaceCases.{valid_tests}
use Rattle.storage.proofs.Truncating.{mark_is}
use Rattle.storage.proofs.Promises.{SlotsKept, Appended, appends, Trimmed, trims, promised_slot, closed_by, Prepared, prepares, Closed, prepares_all, Noted, notes}
use Rattle.guarantee.specs.History.{Transaction}
use Rattle.guarantee.proofs.Ties.{Copy, ReplicaTie}
use Rattle.guarantee.proofs.Media.{part_tie, same_tie}

-- ================ note

module _ (N : ℕ) (f : Fate) (g m : List ℕ) (standing : ℕ → Option Transaction) (c : Copy) (T : ReplicaTie N m standing c) (h : Harmless N f g)
    (low local : ℕ) (a : low < 2 ^ 64) (b : local < 2 ^ 64) where
  abbrev noted : List ℕ
  noted = after f g (note_writes low local m) m

  abbrev slot : Slot
  slot = record { promise = (stored_slot m).promise; low = low; local = local }

  fits : FittingSlot slot
  fits = record { promise = T.fitting.promise; low = a; local = b }

  kept : Noted N slot m noted
  kept = notes N f g m T.sound h low local T.valid fits

  pub noted_mark : mark_of N (after f g (note_writes low local m) m) ≡ mark_of N m
  noted_mark = mark_is N noted ∙ ap length kept.log ∙ sym (mark_is N m)

  -- the slot stayed, or it has the new low-water mark
  pub noted_tie : ReplicaTie N (after f g (note_writes low local m) m) standing c
      ⊎ ReplicaTie N (after f g (note_writes low local m) m) standing (record { promise = c.promise; mark = c.mark; place = c.place; low = low })
  noted_tie =
      ⊎_elim
      (λ e.
      inr (same_tie N m noted standing c T kept.log kept.sound kept.valid (rw e fits) low
      (ap (λ (y : Slot). y.promise) e) (ap (λ (y : Slot). y.low) e)))
      (λ e.
      inl (same_tie N m noted standing c T kept.log kept.sound kept.valid (rw e T.fitting) c.low
      (ap (λ (y : Slot). y.promise) e) (ap (λ (y : Slot). y.low) e ∙ T.low)))
      kept.slot

-- ================ trim

module _ (N : ℕ) (f : Fate) (g m : List ℕ) (standing : ℕ → Option Transaction) (c : Copy) (T : ReplicaTie N m standing c) (h : Harmless N f g)
    (t : ℕ) where
  pub trimmed : Trimmed N (min t (mark_of N m)) m (after f g (trim_writes N t m) m)
  trimmed = trims N f g m T.sound h t

  pub trimmed_tie : ReplicaTie N (after f g (trim_writes N t m) m) standing
      (record { promise = c.promise; mark = trimmed.shortened.upto; place = c.place; low = c.low })
  trimmed_tie =
      let a = trimmed.shortened in
      let k = trimmed.slots in
      part_tie N a.upto m _ a.within a.log standing c T a.sound (λ z. T.valid (sym k.current ∙ z)) (rw k.slot T.fitting)
      c.promise c.low (ap (λ (y : Slot). y.promise) k.slot ∙ T.promise) (ap (λ (y : Slot). y.low) k.slot ∙ T.low)

-- ================ prepare

after_answered : (g : List ℕ) (ws : List Write) (m : List ℕ) → after Answered g ws m ≡ all_of ws m
unfolding after
after_answered g ws m = refl

-- what a complete truncation leaves is the log up to the mark that it truncates to
part_of : (N t : ℕ) (m : List ℕ) → take t (log_of N m) ≡ take (min t (mark_of N m)) (log_of N m)
part_of N t m = go (dec_le t (mark_of N m))
  where
    go : Dec (t ≤ mark_of N m) → take t (log_of N m) ≡ take (min t (mark_of N m)) (log_of N m)
    go (yes l) = let e : t ≡ min t (mark_of N m) = omega arith in ap (λ (n : ℕ). take n (log_of N m)) e
    go (no l) =
        let e : min t (mark_of N m) ≡ mark_of N m = omega arith in
        take_all t (log_of N m) (omega (arith, mark_is N m))
        ∙ sym (ap (λ (n : ℕ). take n (log_of N m)) (e ∙ mark_is N m) ∙ take-length (log_of N m))

closed_part : (N low : ℕ) (m : List ℕ) (to : Target) → closed_by low to (log_of N m) ≡ take (closed_mark low to (mark_of N m)) (log_of N m)
closed_part N low m Whole = sym (ap (λ (n : ℕ). take n (log_of N m)) (mark_is N m) ∙ take-length (log_of N m))
closed_part N low m (Mark t) = part_of N t m
closed_part N low m LowWater = part_of N low m

pub closed_le : (low : ℕ) (to : Target) (n : ℕ) → closed_mark low to n ≤ n
closed_le low Whole n = omega arith
closed_le low (Mark t) n = omega arith
closed_le low LowWater n = omega arith

module _ (N : ℕ) (f : Fate) (g m : List ℕ) (standing : ℕ → Option Transaction) (c : Copy) (T : ReplicaTie N m standing c) (h : Harmless N f g)
    (p : ℕ) (to : Target) (le : (stored_slot m).promise ≤ p) (w : p < 2 ^ 64) where
  abbrev prepared : List ℕ
  prepared = after f g (prepare_writes N p to m) m

  done : Prepared N p to m prepared
  done = prepares N f g m T.sound h p to T.valid T.fitting le w

  new_slot : stored_slot prepared ≡ promised_slot p (stored_slot m) → FittingSlot (stored_slot prepared)
  new_slot e = rw e (record { promise = w; low = T.fitting.low; local = T.fitting.local })

  -- the promise was written, and the log wiped down to k
  pub record Wiped : Type 0 where
    pub upto : ℕ
    pub reaches : closed_mark c.low to c.mark ≤ upto
    pub down : upto ≤ c.mark
    pub tie : ReplicaTie N (after f g (prepare_writes N p to m) m) standing (record { promise = p; mark = upto; place = c.place; low = c.low })

  -- nothing was written yet, or the promise was
  pub prepared_tie : ReplicaTie N (after f g (prepare_writes N p to m) m) standing c ⊎ Wiped
  prepared_tie =
      ⊎_elim
      (λ e.
      inl (same_tie N m prepared standing c T e.1 done.sound done.valid (rw e.0 T.fitting) c.low
      (ap (λ (y : Slot). y.promise) e.0) (ap (λ (y : Slot). y.low) e.0 ∙ T.low)))
      (λ e.
      inr (record {
        upto = e.1.upto;
        reaches = rw (T.mark, T.low) at e.1.reaches;
        down = omega (arith, e.1.within, T.mark);
        tie =
            part_tie N e.1.upto m prepared e.1.within e.1.log standing c T done.sound done.valid (new_slot e.0) p c.low
            (ap (λ (y : Slot). y.promise) e.0) (ap (λ (y : Slot). y.low) e.0 ∙ T.low);
      }))
      done.stage

  -- the whole of it
  pub answered_tie : f ≡ Answered
      → ReplicaTie N (after f g (prepare_writes N p to m) m) standing (record { promise = p; mark = closed_mark c.low to c.mark; place = c.place; low = c.low })
  answered_tie a =
      let all : after f g (prepare_writes N p to m) m ≡ all_of (prepare_writes N p to m) m = rw a (after_answered g (prepare_writes N p to m) m) in
      let z : Closed N p to m prepared = rw all (prepares_all N p to m T.sound T.valid T.fitting le w) in
      let e : log_of N prepared ≡ take (closed_mark c.low to c.mark) (log_of N m) = rw (← T.mark, ← T.low) (z.log ∙ closed_part N (stored_slot m).low m to) in
      part_tie N (closed_mark c.low to c.mark) m prepared (omega (arith, closed_le c.low to c.mark, T.mark)) e standing c T done.sound done.valid
      (new_slot z.slot) p c.low (ap (λ (y : Slot). y.promise) z.slot) (ap (λ (y : Slot). y.low) z.slot ∙ T.low)

-- ================ append

effect_answered : (f : Fate) → f ≡ Answered → effect_of f 1 ≡ New
unfolding effect_of
effect_answered f e = rw e

-- the log got the record
pub record Grown (N : ℕ) (bs m m' : List ℕ) : Type 0 where
  pub log : log_of N m' ≡ log_of N m ++ (bs ∷ [])
  pub sound : Sound N m'
  pub slots : SlotsKept m m'

module _ (N : ℕ) (f : Fate) (g m : List ℕ) (standing : ℕ → Option Transaction) (c : Copy) (T : ReplicaTie N m standing c) (h : Harmless N f g)
    (bs : List ℕ) (n : ℕ) (e : mark_of N m ≡ n) (room : n < N) (v : valid_place (suc n) bs ≡ true) where
  abbrev appended : List ℕ
  appended = after f g (append_writes n bs) m

  written : Appended N f bs m appended
  written =
      let q : suc n ≡ mark_of N m + 1 = omega arith in
      let w : valid_place (mark_of N m + 1) bs ≡ true = rw q at v in
      rw (← e) (appends N f g m T.sound h bs (omega arith) (valid_tests (suc n) bs v).size w)

  -- it has the record, or it stayed, and then there was no answer
  pub appended_cases : ((f ≡ Answered → ⊥) × ReplicaTie N (after f g (append_writes n bs) m) standing c)
      ⊎ Grown N bs m (after f g (append_writes n bs) m)
  appended_cases = go (effect_of f 1) refl
    where
      stayed : (x : Left) → effect_of f 1 ≡ x → (x ≡ New → ⊥) → log_of N appended ≡ log_of N m
          → (f ≡ Answered → ⊥) × ReplicaTie N appended standing c
      stayed x q d l = (
        λ a. d (sym q ∙ effect_answered f a),
        same_tie N m appended standing c T l written.sound (λ z. T.valid (sym written.slots.current ∙ z)) (rw written.slots.slot T.fitting)
            c.low (ap (λ (y : Slot). y.promise) written.slots.slot) (ap (λ (y : Slot). y.low) written.slots.slot ∙ T.low),
      )

      go : (x : Left) → effect_of f 1 ≡ x → ((f ≡ Answered → ⊥) × ReplicaTie N appended standing c) ⊎ Grown N bs m appended
      go New q = inr (record { log = rw q at written.log; sound = written.sound; slots = written.slots })
      go Old q = inl (stayed Old q (λ d. let e : ◌≡◌ {A = ℕ} 0 1 = cc in omega arith) (rw q at written.log))
      go Torn q = inl (stayed Torn q (λ d. let e : ◌≡◌ {A = ℕ} 0 1 = cc in omega arith) (rw q at written.log))
