-- What one write leaves of the log: a record behind it, invalid bytes at its end, a write among the slots.
-- Assumes nothing.
use mathlib.Core.Path.{◌≡◌, refl, sym, ap, ◌∙◌, subst}
use mathlib.Core.Bool.{true, false}
use mathlib.Core.List.{List, [], ◌∷◌, ◌++◌}
use Prim.Native.Nat.{ℕ, suc, ◌+◌, ◌-◌, ◌≤◌, ◌<◌}
use native.Mathlib.Omega.{arith}
use lib.ListN.{length, take, set}
use Rattle.octets.specs.Octets.{write_at, be_from, be_of}
use Rattle.octets.proofs.Laws.{length_write}
use Rattle.storage.specs.Sizes.{slots_size, place_size, medium_size, place_offset}
use Rattle.storage.specs.Places.{valid_place, id_of, wiped}
use Rattle.storage.specs.Log.{place_at, places_from, run, log_of, mark_of, Sound}
use Rattle.storage.proofs.PlaceCases.{bad_id}
use Rattle.storage.proofs.Scan.{length_places}
use Rattle.storage.proofs.Runs.{Clean, run_cut, run_more, clean_cut, clean_more}
use Rattle.storage.proofs.Blocks.{get_d_places, places_write, places_kept}

pub length_wiped : length wiped ≡ place_size
unfolding wiped
length_wiped = refl

-- zeros are no record
pub wiped_invalid : (n : ℕ) → 1 ≤ n → valid_place n wiped ≡ false
unfolding wiped id_of be_of be_from
wiped_invalid n h = sym (bad_id n wiped (λ e. omega (arith, e)))

-- soundness, over the list of places
clean_of : (N : ℕ) (m : List ℕ) → Sound N m → Clean 1 (places_from N 1 m)
unfolding mark_of log_of
clean_of N m s i h l =
    let j : i < N = omega (arith, l, length_places N 1 m) in
    ap (valid_place (1 + i)) (get_d_places N 1 i m j) ∙ s.clean (1 + i) (omega arith) (omega arith)

sound_of : (N : ℕ) (m : List ℕ) → length m ≡ medium_size N → Clean 1 (places_from N 1 m) → Sound N m
unfolding mark_of log_of
sound_of N m e c =
    record {
      size = e;
      clean = λ n h l.
          let q : 1 + (n - 1) ≡ n = omega arith in
          ap (λ (i : ℕ). valid_place i (place_at i m)) (sym q)
          ∙ ap (valid_place (1 + (n - 1))) (sym (get_d_places N 1 (n - 1) m (omega arith)))
          ∙ c (n - 1) (omega arith) (omega (arith, length_places N 1 m));
    }

module _ (N : ℕ) (m : List ℕ) (s : Sound N m) where
  -- a record in the place behind the log is one more of the log
  pub log_more : (bs : List ℕ) → mark_of N m < N → length bs ≡ place_size → valid_place (mark_of N m + 1) bs ≡ true
      → let m' = write_at (place_offset (mark_of N m + 1)) bs m in (log_of N m' ≡ log_of N m ++ (bs ∷ [])) × Sound N m'
  unfolding log_of mark_of
  log_more bs h l v =
      let q = length (run 1 (places_from N 1 m)) in
      let ps = places_from N 1 m in
      let m' = write_at (place_offset (q + 1)) bs m in
      let w : places_from N 1 m' ≡ set ps q bs =
      places_write N m bs s.size (q + 1) (omega arith) (omega arith) l ∙ ap (λ (i : ℕ). set ps i bs) (omega arith) in
      let v' : valid_place (1 + q) bs ≡ true = ap (λ (i : ℕ). valid_place i bs) (omega arith) ∙ v in
      let c = clean_of N m s in (
        ap (run 1) w ∙ run_more 1 q ps bs refl (omega (arith, length_places N 1 m)) v' (λ k. c (suc q) (omega arith) k),
        sound_of N m' (length_write (place_offset (q + 1)) bs m (omega (arith, s.size)) ∙ s.size)
            (subst (Clean 1) (sym w) (clean_more 1 q ps bs refl (omega (arith, length_places N 1 m)) v' c)),
      )

  -- bytes that are not valid, in the last place of the log or the one behind it, end the log before them
  pub log_cut : (j : ℕ) (bs : List ℕ) → 1 ≤ j → j ≤ N → length bs ≡ place_size → mark_of N m ≤ j → j ≤ mark_of N m + 1 → valid_place j bs ≡ false
      → let m' = write_at (place_offset j) bs m in (log_of N m' ≡ take (j - 1) (log_of N m)) × Sound N m'
  unfolding log_of mark_of
  log_cut j bs lo hi l h k v =
      let ps = places_from N 1 m in
      let m' = write_at (place_offset j) bs m in
      let w = places_write N m bs s.size j lo hi l in
      let q : j ≡ 1 + (j - 1) = omega arith in
      let v' : valid_place (1 + (j - 1)) bs ≡ false = ap (λ (i : ℕ). valid_place i bs) (sym q) ∙ v in (
        ap (run 1) w ∙ run_cut 1 (j - 1) ps bs (omega arith) v',
        sound_of N m' (length_write (place_offset j) bs m (omega (arith, s.size)) ∙ s.size)
            (subst (Clean 1) (sym w) (clean_cut 1 (j - 1) ps bs (omega arith) (omega arith) v' (clean_of N m s))),
      )

  -- a write among the slots leaves the log
  pub log_kept : (o : ℕ) (bs : List ℕ) → o + length bs ≤ slots_size → (log_of N (write_at o bs m) ≡ log_of N m) × Sound N (write_at o bs m)
  unfolding log_of
  log_kept o bs h =
      let w = places_kept N m bs s.size N 1 o (omega arith) h in (
        ap (run 1) w,
        sound_of N (write_at o bs m) (length_write o bs m (omega (arith, s.size)) ∙ s.size) (subst (Clean 1) (sym w) (clean_of N m s)),
      )
