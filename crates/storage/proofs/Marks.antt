-- The mark after an operation that is not cut, on media of any content: bytes above the mark may be anything, also valid places behind a gap.
-- Assumes nothing.
use mathlib.Core.Path.{◌≡◌, refl, ap, ◌∙◌}
use mathlib.Core.Bool.{true, false}
use mathlib.Core.List.{List, [], ◌++◌}
use Prim.Native.Nat.{ℕ, zero, suc, ◌+◌, ◌-◌, ◌≤◌, ◌<◌, min}
use native.Mathlib.Omega.{arith}
use native.Mathlib.Decide.{dec_le, dec_lt, ℕ_discrete}
use lib.ListN.{length}
use Rattle.octets.specs.Octets.{write_at}
use Rattle.octets.proofs.Laws.{length_write}
use Rattle.fate.specs.declared.Left.TheVariants.{New}
use Rattle.fate.specs.Fates.{all_of, leave}
use Rattle.storage.specs.declared.slot.Slot.{Slot}
use Rattle.storage.specs.declared.slot.Current.{Current}
use Rattle.storage.specs.declared.operation.Target.{Target}
use Rattle.storage.specs.declared.operation.Target.TheVariants.{Whole, Mark, LowWater}
use Rattle.storage.specs.declared.operation.Operation.{Operation}
use Rattle.storage.specs.declared.operation.Operation.TheVariants.{Prepare, Trim, Note, Append}
use Rattle.storage.specs.Sizes.{place_size, medium_size, place_offset}
use Rattle.storage.specs.Places.{valid_place, wiped}
use Rattle.storage.specs.Slots.{slot_bytes, current_of, stored_slot, other_at}
use Rattle.storage.specs.Log.{place_at, mark_of}
use Rattle.storage.specs.Operations.{slot_write, wipes, promising, closing, closed_mark, prepare_writes, trim_writes, note_writes, writes_of, HasPlace, MarkKnown}
use Rattle.storage.proofs.Scan.{mark_le, mark_known, mark_next, mark_stop, log_valid, log_ends}
use Rattle.storage.proofs.Blocks.{place_same, place_other}
use Rattle.storage.proofs.LogWrites.{length_wiped, wiped_invalid}
use Rattle.storage.proofs.Promises.{PlacesKept, slot_write_places, all_first}
use Rattle.storage.proofs.SlotReadBack.{slot_length}
use Rattle.storage.proofs.Writing.{other_le, promised, not_promised}

-- places 1 to k are valid
abbrev pub ValidTo : ℕ → List ℕ → Type 0
ValidTo k m = (i : ℕ) → i < k → valid_place (i + 1) (place_at (i + 1) m) ≡ true

-- a log that has its first k places reaches k
pub mark_reaches : (N k : ℕ) (m : List ℕ) → k ≤ N → ValidTo k m → k ≤ mark_of N m
mark_reaches N zero m h v = omega arith
mark_reaches N (suc k) m h v =
    let e = mark_known N k m (mark_reaches N k m (omega arith) (λ i l. v i (omega arith))) in
    omega (arith, e, mark_next N k m (omega arith) (v k (omega arith)))

-- and ends there if the place behind is not valid
pub mark_exactly : (N k : ℕ) (m : List ℕ) → k ≤ N → ValidTo k m → (k < N → valid_place (k + 1) (place_at (k + 1) m) ≡ false) → mark_of N m ≡ k
mark_exactly N k m h v z = go (dec_lt k N)
  where
    reached : k ≤ mark_of N m
    reached = mark_reaches N k m h v

    go : Dec (k < N) → mark_of N m ≡ k
    go (yes p) = mark_known N k m reached ∙ mark_stop N k m p (z p)
    go (no p) = omega (arith, p, reached, mark_le N m)

-- where every place is kept, so is the mark
pub mark_kept : (N : ℕ) (m m' : List ℕ) → PlacesKept m m' → mark_of N m' ≡ mark_of N m
mark_kept N m m' k =
    mark_exactly N (mark_of N m) m' (mark_le N m)
    (λ i h. ap (valid_place (i + 1)) (k (i + 1) (omega arith)) ∙ log_valid N i m h)
    (λ p. ap (valid_place (mark_of N m + 1)) (k (mark_of N m + 1) (omega arith)) ∙ log_ends N m p)

-- ---- append

-- a write behind the mark keeps what the log has
pub append_reaches : (N n : ℕ) (m bs : List ℕ) → length m ≡ medium_size N → mark_of N m ≤ n → n < N → length bs ≡ place_size
    → mark_of N m ≤ mark_of N (write_at (place_offset (n + 1)) bs m)
append_reaches N n m bs e b h l =
    mark_reaches N (mark_of N m) _ (mark_le N m)
    (λ i k. ap (valid_place (i + 1)) (place_other N m bs e (i + 1) (n + 1) (omega arith) (omega arith) (omega arith) l (λ q. omega (arith, q))) ∙ log_valid N i m k)

-- ---- truncation

size_wiped : (N j : ℕ) (m : List ℕ) → length m ≡ medium_size N → 1 ≤ j → j ≤ N → length (write_at (place_offset j) wiped m) ≡ medium_size N
size_wiped N j m e lo hi = length_write (place_offset j) wiped m (omega (arith, length_wiped)) ∙ e

-- the places up to the target stay, and the one behind it is wiped
wipes_keep : (N t d : ℕ) (m : List ℕ) → length m ≡ medium_size N → t + d ≤ N → (i : ℕ) → 1 ≤ i → i ≤ t → place_at i (all_of (wipes t d) m) ≡ place_at i m
unfolding all_of wipes
wipes_keep N t zero m e h i lo hi = refl
wipes_keep N t (suc d) m e h i lo hi =
    let m₁ = write_at (place_offset (t + suc d)) wiped m in
    wipes_keep N t d m₁ (size_wiped N (t + suc d) m e (omega arith) (omega arith)) (omega arith) i lo hi
    ∙ place_other N m wiped e i (t + suc d) lo (omega arith) (omega arith) length_wiped (λ q. omega (arith, q))

wipes_first : (N t d : ℕ) (m : List ℕ) → length m ≡ medium_size N → t + suc d ≤ N → place_at (t + 1) (all_of (wipes t (suc d)) m) ≡ wiped
unfolding all_of wipes
wipes_first N t zero m e h =
    ap (λ (j : ℕ). place_at (t + 1) (write_at (place_offset j) wiped m)) (omega arith)
    ∙ place_same N m wiped e (t + 1) (omega arith) (omega arith) length_wiped
wipes_first N t (suc d) m e h =
    wipes_first N t d (write_at (place_offset (t + suc (suc d))) wiped m) (size_wiped N (t + suc (suc d)) m e (omega arith) (omega arith)) (omega arith)

no_wipes : (t : ℕ) (m : List ℕ) → all_of (wipes t 0) m ≡ m
unfolding all_of wipes
no_wipes t m = refl

-- wiping down to place t a log whose mark is t + d
wiped_mark : (N t d : ℕ) (m : List ℕ) → length m ≡ medium_size N → mark_of N m ≡ t + d → mark_of N (all_of (wipes t d) m) ≡ t
wiped_mark N t zero m e q = ap (mark_of N) (no_wipes t m) ∙ q ∙ omega arith
wiped_mark N t (suc d) m e q =
    let m' = all_of (wipes t (suc d)) m in
    let within : t + suc d ≤ N = omega (arith, q, mark_le N m) in
    mark_exactly N t m' (omega arith)
    (λ i h. ap (valid_place (i + 1)) (wipes_keep N t (suc d) m e within (i + 1) (omega arith) (omega arith)) ∙ log_valid N i m (omega arith))
    (λ p. ap (valid_place (t + 1)) (wipes_first N t d m e within) ∙ wiped_invalid (t + 1) (omega arith))

-- truncating a log to place t leaves the lesser of t and its mark
pub truncated_mark : (N t : ℕ) (m : List ℕ) → length m ≡ medium_size N → mark_of N (all_of (wipes t (mark_of N m - t)) m) ≡ min t (mark_of N m)
truncated_mark N t m e = go (dec_le t (mark_of N m))
  where
    go : Dec (t ≤ mark_of N m) → mark_of N (all_of (wipes t (mark_of N m - t)) m) ≡ min t (mark_of N m)
    go (yes p) = wiped_mark N t (mark_of N m - t) m e (omega arith) ∙ omega arith
    go (no p) =
        let z : mark_of N m - t ≡ 0 = omega (arith, p) in
        ap (λ (d : ℕ). mark_of N (all_of (wipes t d) m)) z ∙ ap (mark_of N) (no_wipes t m) ∙ omega (arith, p)

pub trimmed_mark : (N t : ℕ) (m : List ℕ) → length m ≡ medium_size N → mark_of N (all_of (trim_writes N t m) m) ≡ min t (mark_of N m)
unfolding trim_writes
trimmed_mark N t m e = truncated_mark N t m e

-- ---- prepare

closed_mark_lem : (N low : ℕ) (to : Target) (m : List ℕ) → length m ≡ medium_size N
    → mark_of N (all_of (closing (mark_of N m) low to) m) ≡ closed_mark low to (mark_of N m)
unfolding closing all_of
closed_mark_lem N low Whole m e = refl
closed_mark_lem N low (Mark t) m e = truncated_mark N t m e
closed_mark_lem N low LowWater m e = truncated_mark N low m e

-- one slot write: the medium keeps its size and its mark
slot_written : (N : ℕ) (c : Current) (y : Slot) (m : List ℕ) → length m ≡ medium_size N
    → let m₁ = write_at (other_at c) (slot_bytes y) m in (length m₁ ≡ medium_size N) × (mark_of N m₁ ≡ mark_of N m)
unfolding leave
slot_written N c y m e = (
  length_write (other_at c) (slot_bytes y) m (omega (arith, other_le c, slot_length y)) ∙ e,
  mark_kept N m (write_at (other_at c) (slot_bytes y) m) (slot_write_places c y [] m New (omega arith)),
)

pub prepared_mark : (N s : ℕ) (to : Target) (m : List ℕ) → length m ≡ medium_size N → mark_of N (all_of (prepare_writes N s to m) m) ≡ closed_mark (stored_slot m).low to (mark_of N m)
unfolding prepare_writes
prepared_mark N s to m e = go (ℕ_discrete (stored_slot m).promise s)
  where
    go : Dec ((stored_slot m).promise ≡ s)
        → mark_of N (all_of (promising (current_of m) (stored_slot m) s ++ closing (mark_of N m) (stored_slot m).low to) m)
        ≡ closed_mark (stored_slot m).low to (mark_of N m)
    go (yes q) = rw (not_promised (current_of m) (stored_slot m) s q) (closed_mark_lem N (stored_slot m).low to m e)
    go (no ne) =
        let y : Slot = record { promise = s; low = (stored_slot m).low; local = (stored_slot m).local } in
        let w = slot_written N (current_of m) y m e in
        rw (promised (current_of m) (stored_slot m) s ne, all_first (slot_write (current_of m) y) (closing (mark_of N m) (stored_slot m).low to) m)
        (rw w.1 at (closed_mark_lem N (stored_slot m).low to (write_at (other_at (current_of m)) (slot_bytes y) m) w.0))

pub noted_mark : (N low local : ℕ) (m : List ℕ) → length m ≡ medium_size N → mark_of N (all_of (note_writes low local m) m) ≡ mark_of N m
unfolding note_writes all_of
noted_mark N low local m e = (slot_written N (current_of m) (record { promise = (stored_slot m).promise; low = low; local = local }) m e).1

-- ---- any operation

-- "Each answered replica call sets the recorded mark to the replica's mark after it": what is known of it without reading it
pub performed_mark : (N : ℕ) (op : Operation) (bs m : List ℕ) → length m ≡ medium_size N → length bs ≡ place_size → HasPlace N op
    → ((n : ℕ) → op ≡ Append n → mark_of N m ≤ n) → MarkKnown N op (stored_slot m).low (mark_of N m) (all_of (writes_of N bs op m) m)
unfolding all_of
performed_mark N (Prepare s to) bs m e l p b = prepared_mark N s to m e
performed_mark N (Trim t) bs m e l p b = trimmed_mark N t m e
performed_mark N (Note low local) bs m e l p b = noted_mark N low local m e
performed_mark N (Append n) bs m e l p b = append_reaches N n m bs e (b n refl) p l
