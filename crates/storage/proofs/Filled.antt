-- A medium filled from place 1 on: places written one behind the other stand there, all else is kept, and where every place was wiped the mark is
-- how many they are, if they are valid.
-- Assumes nothing.
use mathlib.Core.Path.{◌≡◌, refl, sym, ap, ap₂, ◌∙◌, subst}
use mathlib.Core.Bool.{true, false, ◌&&◌, and-eq-true_iff}
use mathlib.Core.List.{List, [], ◌∷◌, ◌++◌, append_assoc}
use Prim.Native.Nat.{ℕ, zero, suc, ◌+◌, ◌-◌, ◌*◌, ◌≤◌, ◌<◌}
use native.Mathlib.Omega.{arith}
use lib.ListN.{length, take, drop, replicate, length-append, take-append-drop}
use lib.Seq.{drop_at, drop-drop, length-take-le}
use Rattle.octets.specs.Octets.{part, write_at, all_zero}
use Rattle.octets.proofs.Laws.{length_part, length_write, part_write, part_before, part_after, write_write}
use Rattle.octets.proofs.Reading.{zeros_are}
use Rattle.storage.specs.Sizes.{slots_size, place_size, medium_size, place_offset}
use Rattle.storage.specs.Places.{valid_place, wiped}
use Rattle.storage.specs.Log.{place_at, places_from, mark_of}
use Rattle.storage.proofs.PlaceLayouts.{zero_append}
use Rattle.storage.proofs.PlaceCases.{valid_tests}
use Rattle.storage.proofs.LogWrites.{wiped_invalid}
use Rattle.storage.proofs.Marks.{mark_exactly}

-- ================ places as a list, and as one list of bytes

-- places are valid, the first of them as place n
abbrev pub AllValid : ℕ → List (List ℕ) → Type 0
AllValid n [] = Unit {0}
AllValid n (p ∷ ps) = (valid_place n p ≡ true) × AllValid (n + 1) ps

abbrev pub AllLong : List (List ℕ) → Type 0
AllLong [] = Unit {0}
AllLong (p ∷ ps) = (length p ≡ place_size) × AllLong ps

pub valid_long : (n : ℕ) (ps : List (List ℕ)) → AllValid n ps → AllLong ps
valid_long n [] v = tt
valid_long n (p ∷ ps) v = ((valid_tests n p v.0).size, valid_long (n + 1) ps v.1)

unfoldable pub joined : List (List ℕ) → List ℕ
joined [] = []
joined (p ∷ ps) = p ++ joined ps

pub length_joined : (ps : List (List ℕ)) → AllLong ps → length (joined ps) ≡ place_size * length ps
unfolding joined
length_joined [] v = refl
length_joined (p ∷ ps) v =
    length-append p (joined ps) ∙ ap₂ (λ (a b : ℕ). a + b) v.0 (length_joined ps v.1) ∙ omega arith

module _ (n : ℕ) (p m : List ℕ) (ps : List (List ℕ)) (v : AllLong (p ∷ ps)) (lo : 1 ≤ n) (h : place_offset (n + suc (length ps)) ≤ length m) where
  -- the first place, written
  pub length_first : length (write_at (place_offset n) p m) ≡ length m
  length_first = length_write (place_offset n) p m (omega (arith, v.0))

  -- and those behind it
  pub first_more : write_at (place_offset (n + 1)) (joined ps) (write_at (place_offset n) p m) ≡ write_at (place_offset n) (joined (p ∷ ps)) m
  unfolding joined
  first_more = write_write (place_offset n) (place_offset (n + 1)) p (joined ps) m (omega arith) (omega (arith, v.0))

-- places written one behind the other are the places that stand there
places_written : (n : ℕ) (ps : List (List ℕ)) (m : List ℕ) → AllLong ps → 1 ≤ n → place_offset (n + length ps) ≤ length m
    → places_from (length ps) n (write_at (place_offset n) (joined ps) m) ≡ ps
unfolding places_from place_at
places_written n [] m v lo h = refl
places_written n (p ∷ ps) m v lo h =
    let o = place_offset n in
    let m₁ = write_at o p m in
    let l₁ = length_first n p m ps v lo h in
    let first : place_at n (write_at (place_offset (n + 1)) (joined ps) m₁) ≡ p =
    part_before (place_offset (n + 1)) o place_size (joined ps) m₁ (omega arith) (omega (arith, l₁))
    ∙ ap (λ (k : ℕ). part o k m₁) (sym v.0) ∙ part_write o p m (omega arith) in
    ap (places_from (suc (length ps)) n) (sym (first_more n p m ps v lo h))
    ∙ ap₂ (λ (q : List ℕ) (qs : List (List ℕ)). q ∷ qs) first (places_written (n + 1) ps m₁ v.1 (omega arith) (omega (arith, l₁)))

-- ================ places that are all wiped

-- both pieces of a list of zeros
pub zero_pieces : (i : ℕ) (s : List ℕ) → all_zero s ≡ (all_zero (take i s) && all_zero (drop i s))
zero_pieces i s = ap all_zero (sym (take-append-drop i s)) ∙ zero_append (take i s) (drop i s)

zero_part : (o k : ℕ) (s : List ℕ) → all_zero s ≡ true → all_zero (part o k s) ≡ true
zero_part o k s h =
    let d = (and-eq-true_iff (all_zero (take o s)) (all_zero (drop o s))).0 (sym (zero_pieces o s) ∙ h) in
    ((and-eq-true_iff (all_zero (take k (drop o s))) (all_zero (drop k (drop o s)))).0 (sym (zero_pieces k (drop o s)) ∙ d.1)).0

-- place n among the bytes behind the slots
pub place_behind : (n : ℕ) (m : List ℕ) → place_at n m ≡ part (place_size * (n - 1)) place_size (drop slots_size m)
unfolding place_at
place_behind n m = ap (take place_size) (sym (drop-drop (place_size * (n - 1)) slots_size m))

pub all_wiped : (N : ℕ) (m : List ℕ) → length m ≡ medium_size N → all_zero (drop slots_size m) ≡ true
    → (n : ℕ) → 1 ≤ n → n ≤ N → place_at n m ≡ wiped
unfolding place_at wiped
all_wiped N m l h n lo hi =
    let z : all_zero (place_at n m) ≡ true = ap all_zero (place_behind n m) ∙ zero_part (place_size * (n - 1)) place_size (drop slots_size m) h in
    zeros_are (place_at n m) z ∙ ap (λ (i : ℕ). replicate i 0) (length_part (place_offset n) place_size m (omega arith))

-- ================ the whole

drop_written : (o : ℕ) (bs m : List ℕ) → o ≤ length m → drop (o + length bs) (write_at o bs m) ≡ drop (o + length bs) m
unfolding write_at
drop_written o bs m h =
    let rest = drop (o + length bs) m in
    ap (drop (o + length bs)) (sym (append_assoc (take o m) bs rest))
    ∙ drop_at (take o m ++ bs) rest (o + length bs) (length-append (take o m) bs ∙ ap (λ (i : ℕ). i + length bs) (length-take-le o m h))

places_valid_at : (k n : ℕ) (m : List ℕ) → AllValid n (places_from k n m) → (i : ℕ) → i < k → valid_place (n + i) (place_at (n + i) m) ≡ true
unfolding places_from
places_valid_at zero n m v i h = absurd (omega arith)
places_valid_at (suc k) n m v zero h = let q : n + 0 ≡ n = omega arith in ap (λ (j : ℕ). valid_place j (place_at j m)) q ∙ v.0
places_valid_at (suc k) n m v (suc i) h =
    let q : n + suc i ≡ n + 1 + i = omega arith in
    ap (λ (j : ℕ). valid_place j (place_at j m)) q ∙ places_valid_at k (n + 1) m v.1 i (omega arith)

-- ps written behind the slots of m leave r
pub record Filled (N : ℕ) (ps : List (List ℕ)) (m r : List ℕ) : Type 0 where
  pub places : places_from (length ps) 1 r ≡ ps
  pub slots : take slots_size r ≡ take slots_size m
  pub behind : drop (medium_size (length ps)) r ≡ drop (medium_size (length ps)) m
  pub others : (n : ℕ) → length ps < n → place_at n r ≡ place_at n m
  pub size : length r ≡ length m
  pub mark : AllValid 1 ps → all_zero (drop slots_size m) ≡ true → mark_of N r ≡ length ps

pub filled_is : (N : ℕ) (ps : List (List ℕ)) (m : List ℕ) → length m ≡ medium_size N → length ps ≤ N → AllLong ps → Filled N ps m (write_at slots_size (joined ps) m)
unfolding place_at
filled_is N ps m l h v =
    let k = length ps in
    let bs = joined ps in
    let r = write_at slots_size bs m in
    let lb : length bs ≡ place_size * k = length_joined ps v in
    let places : places_from k 1 r ≡ ps = places_written 1 ps m v (omega arith) (omega arith) in
    let whole : slots_size + length bs ≡ medium_size k = omega (arith, lb) in
    let others : (n : ℕ) → k < n → place_at n r ≡ place_at n m =
    λ n g. part_after slots_size (place_offset n) place_size bs m (omega (arith, lb)) (omega arith) in
    let known : AllValid 1 ps → (i : ℕ) → i < k → valid_place (i + 1) (place_at (i + 1) r) ≡ true =
    λ a i g.
    let q : i + 1 ≡ 1 + i = omega arith in
    ap (λ (j : ℕ). valid_place j (place_at j r)) q ∙ places_valid_at k 1 r (subst (AllValid 1) (sym places) a) i g in
    let next : all_zero (drop slots_size m) ≡ true → k < N → valid_place (k + 1) (place_at (k + 1) r) ≡ false =
    λ z g.
    ap (valid_place (k + 1)) (others (k + 1) (omega arith) ∙ all_wiped N m l z (k + 1) (omega arith) (omega arith)) ∙ wiped_invalid (k + 1) (omega arith) in
    record {
      places = places;
      slots = part_before slots_size 0 slots_size bs m (omega arith) (omega arith);
      behind = ap (λ (i : ℕ). drop i r) (sym whole) ∙ drop_written slots_size bs m (omega arith) ∙ ap (λ (i : ℕ). drop i m) whole;
      others = others;
      size = length_write slots_size bs m (omega (arith, lb));
      mark = λ a z. mark_exactly N k r h (known a) (next z);
    }
