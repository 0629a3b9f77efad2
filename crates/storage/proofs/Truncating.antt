-- A truncation under any fate leaves a prefix of the log that reaches its target, and nothing valid above it.
-- Assumes nothing.
use mathlib.Core.Path.{◌≡◌, refl, sym, ap, ◌∙◌, subst⁻¹}
use mathlib.Core.Bool.{Bool, true, false, ◌||◌}
use mathlib.Core.List.{List}
use Prim.Native.Nat.{ℕ, zero, suc, ◌+◌, ◌-◌, ◌≤◌, ◌<◌}
use native.Mathlib.Omega.{arith}
use native.Mathlib.Decide.{ℕ_discrete}
use lib.ListN.{length, take, length-take}
use lib.Seq.{take-length, take-take, take_all}
use Rattle.octets.specs.Octets.{write_at}
use Rattle.fate.specs.declared.Left.{Left}
use Rattle.fate.specs.declared.Left.TheVariants.{Old, New, Torn}
use Rattle.fate.specs.declared.Fate.{Fate}
use Rattle.fate.specs.Fates.{all_of, leave}
use Rattle.fate.specs.Numbered.{effect_of, after_from}
use Rattle.fate.proofs.Laws.{stops, torn_cut}
use Rattle.storage.specs.Sizes.{slot_size, place_size, place_offset}
use Rattle.storage.specs.Places.{valid_place, wiped}
use Rattle.storage.specs.Slots.{valid_slot}
use Rattle.storage.specs.Log.{log_of, mark_of, Sound}
use Rattle.storage.specs.Operations.{place_write, wipes}
use Rattle.storage.specs.Given.{passes_as_place, passes, Harmless}
use Rattle.storage.proofs.Scan.{mark_le}
use Rattle.storage.proofs.LogWrites.{length_wiped, wiped_invalid, log_cut}

-- what a truncation to place t may leave: a prefix of the log that reaches t
pub record Shortened (N t : ℕ) (m m' : List ℕ) : Type 0 where
  pub upto : ℕ
  pub reaches : t ≤ upto
  pub within : upto ≤ mark_of N m
  pub log : log_of N m' ≡ take upto (log_of N m)
  pub sound : Sound N m'

-- ---- given bytes

or_left : (a b : Bool) → (a || b) ≡ false → a ≡ false
or_left true b e = e
or_left false b e = refl

or_right : (a b : Bool) → (a || b) ≡ false → b ≡ false
or_right true b e = let z : ◌≡◌ {A = ℕ} 0 1 = cc in absurd (omega arith)
or_right false b e = e

no_place : (N n : ℕ) (g : List ℕ) → passes_as_place N g ≡ false → 1 ≤ n → n ≤ N → valid_place n g ≡ false
unfolding passes_as_place
no_place zero n g h lo hi = absurd (omega arith)
no_place (suc N) n g h lo hi = at (ℕ_discrete n (suc N)) (no_place N n g (or_right (valid_place (suc N) g) (passes_as_place N g) h) lo)
  where
    at : Dec (n ≡ suc N) → (n ≤ N → valid_place n g ≡ false) → valid_place n g ≡ false
    at (yes e) ih = ap (λ (i : ℕ). valid_place i g) e ∙ or_left (valid_place (suc N) g) (passes_as_place N g) h
    at (no ne) ih = ih (omega (arith, ne))

module _ (N : ℕ) (f : Fate) (g : List ℕ) (h : Harmless N f g) (k : ℕ) (e : effect_of f k ≡ Torn) where
  fails : passes N g ≡ false
  fails = let w = torn_cut f k e in h.torn w.0 w.1

  -- bytes that a torn write leaves are valid nowhere
  pub torn_place : (n : ℕ) → 1 ≤ n → n ≤ N → valid_place n g ≡ false
  unfolding passes
  torn_place n lo hi = no_place N n g (or_right (valid_slot (take slot_size g)) (passes_as_place N g) fails) lo hi

  pub torn_slot : valid_slot (take slot_size g) ≡ false
  unfolding passes
  torn_slot = or_left (valid_slot (take slot_size g)) (passes_as_place N g) fails

-- ---- the truncation

pub mark_is : (N : ℕ) (m : List ℕ) → mark_of N m ≡ length (log_of N m)
unfolding mark_of
mark_is N m = refl

module _ (N t : ℕ) where
  pub no_change : (m : List ℕ) → Sound N m → t ≤ mark_of N m → Shortened N t m m
  no_change m s h =
      record {
        upto = mark_of N m;
        reaches = h;
        within = omega arith;
        log = sym (ap (λ (i : ℕ). take i (log_of N m)) (mark_is N m) ∙ take-length (log_of N m));
        sound = s;
      }

  -- the last place of the log, overwritten by bytes that are not valid
  one_less : (j : ℕ) (m bs : List ℕ) → Sound N m → 1 ≤ j → mark_of N m ≡ j → length bs ≡ place_size → valid_place j bs ≡ false
      → let m' = write_at (place_offset j) bs m in (log_of N m' ≡ take (j - 1) (log_of N m)) × Sound N m'
  one_less j m bs s lo e l v = log_cut N m s j bs lo (omega (arith, mark_le N m)) l (omega arith) (omega arith) v

  less : (j : ℕ) (m m' : List ℕ) → t < j → mark_of N m ≡ j → (log_of N m' ≡ take (j - 1) (log_of N m)) × Sound N m' → Shortened N t m m'
  less j m m' h e r = record { upto = j - 1; reaches = omega arith; within = omega arith; log = r.0; sound = r.1 }

  then : (m m₁ m₂ : List ℕ) → Shortened N t m m₁ → Shortened N t m₁ m₂ → Shortened N t m m₂
  then m m₁ m₂ a b =
      let n : mark_of N m₁ ≤ a.upto = omega (arith, mark_is N m₁, ap length a.log, length-take a.upto (log_of N m)) in
      record {
        upto = b.upto;
        reaches = b.reaches;
        within = omega (arith, b.within, n, a.within);
        log = b.log ∙ ap (take b.upto) a.log ∙ take-take b.upto a.upto (log_of N m) (omega (arith, b.within, n));
        sound = b.sound;
      }

  one_wiped : (d : ℕ) (m : List ℕ) → Sound N m → mark_of N m ≡ t + suc d → let m₁ = write_at (place_offset (t + suc d)) wiped m in
      (log_of N m₁ ≡ take (t + d) (log_of N m)) × Sound N m₁ × (mark_of N m₁ ≡ t + d)
  one_wiped d m s e =
      let j = t + suc d in
      let m₁ = write_at (place_offset j) wiped m in
      let r = one_less j m wiped s (omega arith) e length_wiped (wiped_invalid j (omega arith)) in
      let q : j - 1 ≡ t + d = omega arith in
      let l : log_of N m₁ ≡ take (t + d) (log_of N m) = r.0 ∙ ap (λ (i : ℕ). take i (log_of N m)) q in
      (l, r.1, omega (arith, e, mark_is N m, mark_is N m₁, ap length l, length-take (t + d) (log_of N m)))

  module _ (f : Fate) (g : List ℕ) (h : Harmless N f g) where
    -- write k of a truncation, and those behind it
    step : (d k : ℕ) (m : List ℕ) → Sound N m → mark_of N m ≡ t + suc d
        → ((m₁ : List ℕ) → Sound N m₁ → mark_of N m₁ ≡ t + d → Shortened N t m₁ (after_from (k + 1) f g (wipes t d) m₁))
        → (x : Left) → effect_of f k ≡ x → Shortened N t m (after_from (k + 1) f g (wipes t d) (leave x g (place_write (t + suc d) wiped) m))
    unfolding leave
    step d k m s e ih Old q =
        subst⁻¹ (Shortened N t m) (stops g f k (λ z. let o : ◌≡◌ {A = Left} Old New = sym q ∙ z in let n : ◌≡◌ {A = ℕ} 0 1 = cc in omega arith) (wipes t d) m)
        (no_change m s (omega arith))
    step d k m s e ih New q =
        let m₁ = write_at (place_offset (t + suc d)) wiped m in
        let r = one_wiped d m s e in
        then m m₁ (after_from (k + 1) f g (wipes t d) m₁)
        (record { upto = t + d; reaches = omega arith; within = omega arith; log = r.0; sound = r.1 }) (ih m₁ r.1 r.2)
    step d k m s e ih Torn q =
        let j = t + suc d in
        let b = take (length wiped) g in
        let same : b ≡ g = take_all (length wiped) g (omega (arith, length_wiped, h.size)) in
        let v : valid_place j b ≡ false = ap (valid_place j) same ∙ torn_place N f g h k q j (omega arith) (omega (arith, e, mark_le N m)) in
        let r = one_less j m b s (omega arith) e (ap length same ∙ h.size) v in
        subst⁻¹ (Shortened N t m)
        (stops g f k (λ z. let o : ◌≡◌ {A = Left} Torn New = sym q ∙ z in let n : ◌≡◌ {A = ℕ} 0 1 = cc in omega arith) (wipes t d) (write_at (place_offset j) b m))
        (less j m (write_at (place_offset j) b m) (omega arith) e r)

    pub truncated : (d k : ℕ) (m : List ℕ) → Sound N m → mark_of N m ≡ t + d → Shortened N t m (after_from k f g (wipes t d) m)
    unfolding after_from wipes
    truncated zero k m s e = no_change m s (omega arith)
    truncated (suc d) k m s e = step d k m s e (λ m₁ s₁ e₁. truncated d (k + 1) m₁ s₁ e₁) (effect_of f k) refl

  -- a truncation that is not cut leaves the log up to place t
  pub truncated_all : (d : ℕ) (m : List ℕ) → Sound N m → mark_of N m ≡ t + d → (log_of N (all_of (wipes t d) m) ≡ take t (log_of N m)) × Sound N (all_of (wipes t d) m)
  unfolding all_of wipes
  truncated_all zero m s e = (sym (take_all t (log_of N m) (omega (arith, mark_is N m))), s)
  truncated_all (suc d) m s e =
      let m₁ = write_at (place_offset (t + suc d)) wiped m in
      let r = one_wiped d m s e in
      let u = truncated_all d m₁ r.1 r.2 in
      (u.0 ∙ ap (take t) r.0 ∙ take-take t (t + d) (log_of N m) (omega arith), u.1)
