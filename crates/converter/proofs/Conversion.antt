-- A valid old log reads the same through the new layout. Document 02, No. 7: "every slot and every record of the log is kept, and all other places come
-- out wiped"; "a valid old log must read the same through the new layout".
--
--   converts        of every old medium of N places, whatever bytes it has: the converter's medium has N places, the same slots and the same current
--                   one, the same mark, the same fields (the sequence as a number) and data in each place of the log, and wiped places above; so none is
--                   valid there
--   call-converts   so it is with the second slice after every call that answers ok
-- Assumes nothing.
use mathlib.Core.Path.{◌≡◌, refl, sym, ap, ap₂, ◌∙◌, subst}
use mathlib.Core.Bool.{Bool, true, false, cond, and-eq-true_iff}
use mathlib.Core.List.{List, [], ◌∷◌, ◌++◌, map}
use Prim.Native.Nat.{ℕ, zero, suc, ◌+◌, ◌-◌, ◌*◌, ◌≤◌, ◌<◌}
use native.Mathlib.Omega.{arith}
use lib.Dec.{lit≤}
use lib.ListN.{length, get_or, take, drop, replicate, length-append, length-replicate, length-drop, length-map}
use lib.Seq.{take_at, drop_at, drop-drop, ext_get_or}
use Rattle.octets.specs.Octets.{part, write_at, Bytes, all_zero}
use Rattle.octets.proofs.Laws.{length_part, part_part}
use Rattle.octets.proofs.Reading.{bytes_part, zeros_are, zeros_zero}
use Rattle.storage.specs.Sizes.{slot_size, slots_size, place_size, medium_size}
use Rattle.storage.specs.Places.{fields_in, data_of, valid_place, wiped}
use Rattle.storage.specs.Slots.{first_of, second_of, current_of, stored_slot}
use Rattle.storage.specs.Log.{run_by, place_at, places_from, log_of, mark_of, Sound}
use Rattle.storage.proofs.Blocks.{get_d_places}
use Rattle.storage.proofs.LogPlaces.{run_by_at, log_place}
use Rattle.storage.proofs.LogWrites.{wiped_invalid}
use Rattle.storage.proofs.SlotWrites.{same_slots}
use Rattle.storage.proofs.Truncating.{mark_is}
use Rattle.storage.proofs.Filled.{AllValid, valid_long, joined, zero_pieces, all_wiped, Filled, filled_is}
use Rattle.old_places.specs.Old.{old_place_size, old_medium_size, old_fields, old_data, old_valid, old_place_at, old_places_from, old_log, old_mark, renewed}
use Rattle.converter.specs.Convert.{all_renewed, converted, ok, verdict, new_medium}
use Rattle.converter.proofs.Converting.{mark_le, length_log}
use Rattle.old_places.proofs.OldRecords.{Renewed, renews}
use Rattle.converter.proofs.Verdicts.{Convertible, declines}

-- ================ the statement

-- an old medium m of N places, and r, a new one
pub record ReadsTheSame (N : ℕ) (m r : List ℕ) : Type 0 where
  pub size : length r ≡ medium_size N
  pub slots : take slots_size r ≡ take slots_size m  -- an invalid one too
  pub current : current_of r ≡ current_of m
  pub stored : stored_slot r ≡ stored_slot m
  pub mark : mark_of N r ≡ old_mark N m
  pub log : log_of N r ≡ map renewed (old_log N m)  -- each record with a check of its own
  pub fields : (n : ℕ) → 1 ≤ n → n ≤ old_mark N m → fields_in (place_at n r) ≡ old_fields (old_place_at n m)
  pub content : (n : ℕ) → 1 ≤ n → n ≤ old_mark N m → data_of (place_at n r) ≡ old_data (old_place_at n m)
  pub above : (n : ℕ) → old_mark N m < n → n ≤ N → place_at n r ≡ wiped
  pub sound : Sound N r  -- no place above the mark is valid

abbrev pub Converts : Type 0
Converts = (N : ℕ) (m : List ℕ) → Bytes m → length m ≡ old_medium_size N → ReadsTheSame N m (converted N m)

abbrev pub CallConverts : Type 0
CallConverts =
    (old new : List ℕ) → Bytes old → verdict old new ≡ ok → (N : ℕ) × Convertible N old new × ReadsTheSame N old (new_medium old new)

-- ================ the records of the log

AllBytes : List (List ℕ) → Type 0
AllBytes [] = Unit {0}
AllBytes (p ∷ ps) = Bytes p × AllBytes ps

places_bytes : (k n : ℕ) (m : List ℕ) → Bytes m → AllBytes (old_places_from k n m)
unfolding old_places_from old_place_at AllBytes
places_bytes zero n m b = tt
places_bytes (suc k) n m b = (bytes_part (slots_size + old_place_size * (n - 1)) old_place_size m b, places_bytes k (n + 1) m b)

-- a run, renewed, is valid from the same place on
run_valid : (n : ℕ) (ps : List (List ℕ)) → AllBytes ps → AllValid n (map renewed (run_by old_valid n ps))
unfolding run_by AllBytes
run_valid n [] b = tt
run_valid n (p ∷ ps) b = go (old_valid n p) refl (run_valid (n + 1) ps b.1)
  where
    go : (c : Bool) → old_valid n p ≡ c → AllValid (n + 1) (map renewed (run_by old_valid (n + 1) ps)) → AllValid n (map renewed (cond c (p ∷ run_by old_valid (n + 1) ps) []))
    go true v h = ((renews n p b.0 v).valid, h)
    go false v h = tt

joined_renewed : (ps : List (List ℕ)) → all_renewed ps ≡ joined (map renewed ps)
unfolding all_renewed joined
joined_renewed [] = refl
joined_renewed (p ∷ ps) = ap (λ (r : List ℕ). renewed p ++ r) (joined_renewed ps)

-- ================ the new medium is its log, written into wiped places

module _ (N : ℕ) (m : List ℕ) (size : length m ≡ old_medium_size N) where
  abbrev slots : List ℕ
  slots = take slots_size m

  -- the same slots before wiped places
  abbrev empty : List ℕ
  empty = slots ++ replicate (place_size * N) 0

  abbrev log : List (List ℕ)
  log = map renewed (old_log N m)

  length_slots : length slots ≡ slots_size
  length_slots = length_part 0 slots_size m (omega arith)

  length_empty : length empty ≡ medium_size N
  length_empty = length-append slots (replicate (place_size * N) 0) ∙ omega (arith, length_slots, length-replicate {A = ℕ} (place_size * N) 0)

  behind : drop slots_size empty ≡ replicate (place_size * N) 0
  behind = drop_at slots (replicate (place_size * N) 0) slots_size length_slots

  wiped_behind : all_zero (drop slots_size empty) ≡ true
  wiped_behind = ap all_zero behind ∙ zeros_zero (place_size * N)

  count : length log ≡ old_mark N m
  unfolding old_mark
  count = length-map (old_log N m) renewed

  -- what is left of the wiped places behind the log
  rest : drop (slots_size + length (joined log)) empty ≡ replicate (place_size * (N - old_mark N m)) 0
  rest =
      let l : length (joined log) ≡ place_size * old_mark N m = ap length (sym (joined_renewed (old_log N m))) ∙ length_log N m in
      let s = drop (slots_size + length (joined log)) empty in
      let zs = drop slots_size empty in
      let same : s ≡ drop (length (joined log)) zs = sym (drop-drop (length (joined log)) slots_size empty) in
      let z : all_zero s ≡ true = ap all_zero same ∙ ((and-eq-true_iff (all_zero (take (length (joined log)) zs)) (all_zero (drop (length (joined log)) zs))).0 (sym (zero_pieces (length (joined log)) zs) ∙ wiped_behind)).1 in
      let n : length s ≡ place_size * (N - old_mark N m) = omega (arith, length-drop (slots_size + length (joined log)) empty, length_empty, l, mark_le N m) in
      zeros_are s z ∙ ap (λ (i : ℕ). replicate i 0) n

  assembled : converted N m ≡ write_at slots_size (joined log) empty
  unfolding converted write_at
  assembled =
      sym (ap₂ (λ (a b : List ℕ). a ++ b) (take_at slots (replicate (place_size * N) 0) slots_size length_slots)
      (ap₂ (λ (a b : List ℕ). a ++ b) (sym (joined_renewed (old_log N m))) rest))

-- ================ the slots

slots_same : (m r : List ℕ) → take slots_size r ≡ take slots_size m → (first_of r ≡ first_of m) × (second_of r ≡ second_of m)
slots_same m r e =
    let at : (o : ℕ) → o + slot_size ≤ slots_size → part (0 + o) slot_size r ≡ part (0 + o) slot_size m =
    λ o h. sym (part_part 0 slots_size o slot_size r h) ∙ ap (part o slot_size) e ∙ part_part 0 slots_size o slot_size m h in
    (at 0 (lit≤ tt), at slot_size (lit≤ tt))

-- ================ the places

-- place n of an old medium, where it is in the log
get_d_old : (k n i : ℕ) (m : List ℕ) → i < k → get_or (old_places_from k n m) i [] ≡ old_place_at (n + i) m
unfolding old_places_from
get_d_old zero n i m h = absurd (omega arith)
get_d_old (suc k) n zero m h = let q : n ≡ n + 0 = omega arith in ap (λ (x : ℕ). old_place_at x m) q
get_d_old (suc k) n (suc i) m h =
    let q : n + 1 + i ≡ n + suc i = omega arith in
    get_d_old k (n + 1) i m (omega arith) ∙ ap (λ (x : ℕ). old_place_at x m) q

get_d_renewed : (ps : List (List ℕ)) (i : ℕ) → i < length ps → get_or (map renewed ps) i [] ≡ renewed (get_or ps i [])
get_d_renewed [] i h = absurd (omega arith)
get_d_renewed (p ∷ ps) zero h = refl
get_d_renewed (p ∷ ps) (suc i) h = get_d_renewed ps i (omega arith)

-- the place at index i of a run is valid
run_valid_at : (n i : ℕ) (ps : List (List ℕ)) → i < length (run_by old_valid n ps) → old_valid (n + i) (get_or (run_by old_valid n ps) i []) ≡ true
unfolding run_by
run_valid_at n i [] h = absurd (omega arith)
run_valid_at n i (p ∷ ps) h = go (old_valid n p) refl i h (λ j l. run_valid_at (n + 1) j ps l)
  where
    go : (c : Bool) → old_valid n p ≡ c → (i : ℕ) → i < length (cond c (p ∷ run_by old_valid (n + 1) ps) [])
        → ((j : ℕ) → j < length (run_by old_valid (n + 1) ps) → old_valid (n + 1 + j) (get_or (run_by old_valid (n + 1) ps) j []) ≡ true)
        → old_valid (n + i) (get_or (cond c (p ∷ run_by old_valid (n + 1) ps) []) i []) ≡ true
    go true v zero h f = let q : n + 0 ≡ n = omega arith in ap (λ (x : ℕ). old_valid x p) q ∙ v
    go true v (suc i) h f =
        let q : n + suc i ≡ n + 1 + i = omega arith in
        ap (λ (x : ℕ). old_valid x (get_or (run_by old_valid (n + 1) ps) i [])) q ∙ f i (omega arith)
    go false v i h f = absurd (omega arith)

module _ (N : ℕ) (m r : List ℕ) (b : Bytes m) (size : length m ≡ old_medium_size N) (e : places_from (length (log N m size)) 1 r ≡ log N m size) where
  module _ (n : ℕ) (lo : 1 ≤ n) (hi : n ≤ old_mark N m) where
    in_log : get_or (old_log N m) (n - 1) [] ≡ old_place_at n m
    unfolding old_log old_mark
    in_log =
        let q : 1 + (n - 1) ≡ n = omega arith in
        run_by_at old_valid 1 (n - 1) (old_places_from N 1 m) (omega arith) ∙ get_d_old N 1 (n - 1) m (omega (arith, mark_le N m)) ∙ ap (λ (x : ℕ). old_place_at x m) q

    place_renewed : place_at n r ≡ renewed (old_place_at n m)
    unfolding old_mark
    place_renewed =
        let q : 1 + (n - 1) ≡ n = omega arith in
        let c = count N m size in
        ap (λ (x : ℕ). place_at x r) (sym q) ∙ sym (get_d_places (length (log N m size)) 1 (n - 1) r (omega (arith, c)))
        ∙ ap (λ (l : List (List ℕ)). get_or l (n - 1) []) e ∙ get_d_renewed (old_log N m) (n - 1) (omega arith) ∙ ap renewed in_log

    again : Renewed n (old_place_at n m)
    unfolding old_place_at old_log old_mark
    again =
        let q : 1 + (n - 1) ≡ n = omega arith in
        let v : old_valid n (old_place_at n m) ≡ true =
        ap₂ old_valid (sym q) (sym in_log) ∙ run_valid_at 1 (n - 1) (old_places_from N 1 m) (omega arith) in
        renews n (old_place_at n m) (bytes_part (slots_size + old_place_size * (n - 1)) old_place_size m b) v

    same_fields : fields_in (place_at n r) ≡ old_fields (old_place_at n m)
    same_fields = ap fields_in place_renewed ∙ again.fields

    same_content : data_of (place_at n r) ≡ old_data (old_place_at n m)
    same_content = ap data_of place_renewed ∙ again.content

-- places that are all of a medium's mark are its log
log_is : (N : ℕ) (ps : List (List ℕ)) (r : List ℕ) → places_from (length ps) 1 r ≡ ps → mark_of N r ≡ length ps → log_of N r ≡ ps
log_is N ps r e f =
    ext_get_or [] (log_of N r) ps (sym (mark_is N r) ∙ f) (λ i h. at i (omega (arith, h, mark_is N r, f)))
  where
    at : (i : ℕ) → i < length ps → get_or (log_of N r) i [] ≡ get_or ps i []
    at i h =
        let q : 1 + i - 1 ≡ i = omega arith in
        ap (λ (j : ℕ). get_or (log_of N r) j []) (sym q) ∙ sym (log_place N r (1 + i) (omega arith) (omega (arith, f)))
        ∙ sym (get_d_places (length ps) 1 i r h) ∙ ap (λ (l : List (List ℕ)). get_or l i []) e

-- ================ the proof

written : (N : ℕ) (m : List ℕ) → Bytes m → (size : length m ≡ old_medium_size N) → ReadsTheSame N m (write_at slots_size (joined (log N m size)) (empty N m size))
unfolding old_log
written N m b size =
    let ps = log N m size in
    let m₀ = empty N m size in
    let r = write_at slots_size (joined ps) m₀ in
    let c = count N m size in
    let valid : AllValid 1 ps = run_valid 1 (old_places_from N 1 m) (places_bytes N 1 m b) in
    let f : Filled N ps m₀ r = filled_is N ps m₀ (length_empty N m size) (omega (arith, c, mark_le N m)) (valid_long 1 ps valid) in
    let kept : take slots_size r ≡ take slots_size m = f.slots ∙ take_at (slots N m size) (replicate (place_size * N) 0) slots_size (length_slots N m size) in
    let two = slots_same m r kept in
    let shown = same_slots m r two.0 two.1 in
    let mark : mark_of N r ≡ old_mark N m = f.mark valid (wiped_behind N m size) ∙ c in
    let above : (n : ℕ) → old_mark N m < n → n ≤ N → place_at n r ≡ wiped =
    λ n h k. f.others n (omega (arith, c)) ∙ all_wiped N m₀ (length_empty N m size) (wiped_behind N m size) n (omega arith) k in
    record {
      size = f.size ∙ length_empty N m size;
      slots = kept;
      current = shown.0;
      stored = shown.1;
      mark = mark;
      log = log_is N ps r f.places (f.mark valid (wiped_behind N m size));
      fields = λ n lo hi. same_fields N m r b size f.places n lo hi;
      content = λ n lo hi. same_content N m r b size f.places n lo hi;
      above = above;
      sound = record { size = f.size ∙ length_empty N m size; clean = λ n h k. ap (valid_place n) (above n (omega (arith, mark)) k) ∙ wiped_invalid n (omega arith) };
    }

pub converts : Converts
converts N m b size = subst (ReadsTheSame N m) (sym (assembled N m size)) (written N m b size)

pub call_converts : CallConverts
call_converts old new b e =
    let d = declines old new in
    let c = d.0.0 e in
    (c.0, c.1, subst (ReadsTheSame c.0 old) (sym (d.2 c.0 c.1)) (converts c.0 old b c.1.lengths.before))
