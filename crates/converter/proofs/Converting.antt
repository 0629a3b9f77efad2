-- The log of an old medium, one place at a time: what is left of it, renewed and written into what stands there, is the whole.
-- Assumes nothing.
use mathlib.Core.Path.{◌≡◌, refl, sym, ap, ap₂, ◌∙◌}
use mathlib.Core.Bool.{Bool, true, false, cond}
use mathlib.Core.List.{List, [], ◌∷◌, ◌++◌}
use Prim.Native.Nat.{ℕ, zero, suc, ◌+◌, ◌-◌, ◌*◌, ◌<◌, ◌≤◌}
use native.Mathlib.Omega.{arith}
use borrow.Rule.Slice.PartMut.{put_mid}
use lib.ListN.{length, take, drop, replicate, length-take, length-append, length-replicate}
use Rattle.octets.specs.Octets.{write_at}
use Rattle.octets.proofs.Laws.{length_part, length_between, length_write, mid_write, write_write, write_none, write_three, write_all}
use Rattle.storage.specs.Layout.{data_offset}
use Rattle.storage.specs.Sizes.{place_layout, data_limit, slots_size, place_size, medium_size}
use Rattle.storage.specs.Places.{place_numbers, record_bytes, size_as}
use Rattle.storage.specs.Log.{run_by}
use Rattle.storage.proofs.Layouts.{record_length}
use Rattle.storage.proofs.Scan.{run_by_le}
use Rattle.storage.proofs.PlaceLayouts.{valid_tests}
use Rattle.old_places.specs.Old.{old_layout, old_place_size, old_medium_size, old_fields, old_data, old_valid, old_place_at, old_places_from, old_log, old_mark, renewed}
use Rattle.converter.specs.Convert.{all_renewed, converted}

-- what is left of a log of N places behind place n
unfoldable pub left : ℕ → ℕ → List ℕ → List (List ℕ)
left N n m = run_by old_valid (n + 1) (old_places_from (N - n) (n + 1) m)

pub left_all : (N : ℕ) (m : List ℕ) → left N 0 m ≡ old_log N m
unfolding left old_log
left_all N m = let q : N - 0 ≡ N = omega arith in ap (λ (k : ℕ). run_by old_valid 1 (old_places_from k 1 m)) q

pub mark_all : (N : ℕ) (m : List ℕ) → old_mark N m ≡ 0 + length (left N 0 m)
unfolding old_mark
mark_all N m = omega (arith, ap length (left_all N m))

pub left_end : (N n : ℕ) (m : List ℕ) → N ≤ n → left N n m ≡ []
unfolding left run_by old_places_from
left_end N n m h = let q : N - n ≡ 0 = omega arith in rw q

module _ (N n : ℕ) (m : List ℕ) (h : n < N) where
  pub left_next : old_valid (n + 1) (old_place_at (n + 1) m) ≡ true → left N n m ≡ old_place_at (n + 1) m ∷ left N (n + 1) m
  unfolding left run_by old_places_from
  left_next v = let q : N - n ≡ suc (N - (n + 1)) = omega arith in rw (q, v)

  pub left_stop : old_valid (n + 1) (old_place_at (n + 1) m) ≡ false → left N n m ≡ []
  unfolding left run_by old_places_from
  left_stop v = let q : N - n ≡ suc (N - (n + 1)) = omega arith in rw (q, v)

  pub length_old : old_medium_size N ≡ length m → length (old_place_at (n + 1) m) ≡ old_place_size
  unfolding old_place_at
  length_old l = length_part (slots_size + old_place_size * (n + 1 - 1)) old_place_size m (omega arith)

-- the code's place, from the offset that it keeps
pub place_here : (n a : ℕ) (m : List ℕ) → a ≡ slots_size + old_place_size * n → take (a + old_place_size - a) (drop a m) ≡ old_place_at (n + 1) m
unfolding old_place_at
place_here n a m e =
    let q : a + old_place_size - a ≡ old_place_size = omega arith in
    let w : a ≡ slots_size + old_place_size * (n + 1 - 1) = omega arith in
    ap₂ (λ (k o : ℕ). take k (drop o m)) q w

-- a valid place's data fit, and its record is as long as a place is now
pub valid_short : (n : ℕ) (s : List ℕ) → old_valid n s ≡ true → size_as old_layout s ≤ data_limit
unfolding old_valid
valid_short n s v = (valid_tests old_layout n s v).form.short

pub length_renewed : (s : List ℕ) → size_as old_layout s ≤ data_limit → length (renewed s) ≡ place_size
unfolding renewed record_bytes old_data
length_renewed s h =
    let d = old_data s in
    record_length place_layout (place_numbers (old_fields s) (length d)) d refl (omega (arith, length-take (size_as old_layout s) (drop (data_offset old_layout) s)))

-- one record more is written
pub renewed_next : (N n b f : ℕ) (m s ys : List ℕ) → left N n m ≡ old_place_at (n + 1) m ∷ left N (n + 1) m → b ≤ length s
    → ys ≡ renewed (old_place_at (n + 1) m) → b + length ys ≡ f
    → write_at b (all_renewed (left N n m)) s ≡ write_at f (all_renewed (left N (n + 1) m)) (put_mid b (f - b) s ys)
unfolding all_renewed
renewed_next N n b f m s ys e h g l =
    let p = renewed (old_place_at (n + 1) m) in
    let reach : b + length p ≡ f = ap (λ (i : List ℕ). b + length i) (sym g) ∙ l in
    ap (λ (ps : List (List ℕ)). write_at b (all_renewed ps) s) e
    ∙ sym (write_write b f p (all_renewed (left N (n + 1) m)) s h reach)
    ∙ ap (write_at f (all_renewed (left N (n + 1) m))) (sym (mid_write b f s ys p reach g))

-- nothing is left
pub renewed_end : (N n b : ℕ) (m s : List ℕ) → left N n m ≡ [] → write_at b (all_renewed (left N n m)) s ≡ s
unfolding all_renewed
renewed_end N n b m s e = ap (λ (ps : List (List ℕ)). write_at b (all_renewed ps) s) e ∙ write_none s b

-- ---- the whole

length_places : (k n : ℕ) (m : List ℕ) → length (old_places_from k n m) ≡ k
unfolding old_places_from
length_places zero n m = refl
length_places (suc k) n m = ap suc (length_places k (n + 1) m)

pub mark_le : (N : ℕ) (m : List ℕ) → old_mark N m ≤ N
unfolding old_mark old_log
mark_le N m = omega (arith, run_by_le old_valid 1 (old_places_from N 1 m), length_places N 1 m)

-- a run's records are as long as so many places
length_run : (n : ℕ) (ps : List (List ℕ)) → length (all_renewed (run_by old_valid n ps)) ≡ place_size * length (run_by old_valid n ps)
unfolding run_by all_renewed
length_run n [] = refl
length_run n (p ∷ ps) = go (old_valid n p) refl (length_run (n + 1) ps)
  where
    go : (b : Bool) → old_valid n p ≡ b → length (all_renewed (run_by old_valid (n + 1) ps)) ≡ place_size * length (run_by old_valid (n + 1) ps)
        → length (all_renewed (cond b (p ∷ run_by old_valid (n + 1) ps) [])) ≡ place_size * length (cond b (p ∷ run_by old_valid (n + 1) ps) [])
    go true v h =
        length-append (renewed p) (all_renewed (run_by old_valid (n + 1) ps))
        ∙ omega (arith, length_renewed p (valid_short n p v), h)
    go false v h = refl

pub length_log : (N : ℕ) (m : List ℕ) → length (all_renewed (old_log N m)) ≡ place_size * old_mark N m
unfolding old_mark old_log
length_log N m = length_run 1 (old_places_from N 1 m)

-- slots, log and zeros, each behind the one before, are the new medium
pub all_written : (N k : ℕ) (m out l₁ l₂ y : List ℕ) → length m ≡ old_medium_size N → length out ≡ medium_size N → k ≡ old_mark N m
    → l₁ ≡ write_at 0 (take slots_size m) out → l₂ ≡ write_at slots_size (all_renewed (old_log N m)) l₁
    → y ≡ replicate (length (take (length l₂ - (slots_size + place_size * k)) (drop (slots_size + place_size * k) l₂))) 0
    → put_mid (slots_size + place_size * k) (length l₂ - (slots_size + place_size * k)) l₂ y ≡ converted N m
unfolding converted
all_written N k m out l₁ l₂ y lm lo e e₁ e₂ e₃ =
    let slots = take slots_size m in
    let log = all_renewed (old_log N m) in
    let rest = place_size * (N - old_mark N m) in
    let zeros = replicate {A = ℕ} rest 0 in
    let a = slots_size + place_size * k in
    let within = mark_le N m in
    let ls : length slots ≡ slots_size = length_part 0 slots_size m (omega arith) in
    let ll : length log ≡ place_size * old_mark N m = length_log N m in
    let lz : length zeros ≡ rest = length-replicate rest 0 in
    let n₁ : length l₁ ≡ length out = ap length e₁ ∙ length_write 0 slots out (omega (arith, ls)) in
    let n₂ : length l₂ ≡ length out = ap length e₂ ∙ length_write slots_size log l₁ (omega (arith, ll)) ∙ n₁ in
    let behind : length (take (length l₂ - a) (drop a l₂)) ≡ rest = length_between a (length l₂) l₂ (omega arith) (omega arith) ∙ omega arith in
    mid_write a (length l₂) l₂ y zeros (omega (arith, lz)) (e₃ ∙ ap (λ (i : ℕ). replicate i 0) behind)
    ∙ ap (write_at a zeros) (e₂ ∙ ap (write_at slots_size log) e₁)
    ∙ write_three out slots log zeros slots_size a ls (omega (arith, ll)) (omega arith)
    ∙ write_all (slots ++ (log ++ zeros)) out (length-append slots (log ++ zeros) ∙ omega (arith, ls, length-append log zeros, ll, lz))
