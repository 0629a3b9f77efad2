-- A RECOVERY OF A FRESH CLUSTER ARRIVES, if it is not declined, lists at least Q replicas and no fates are given. So what `arrives` asks for can be met. The
-- statement comes first; the theorem is `fresh_arrives`.
-- Assumes nothing.
use mathlib.Core.Path.{◌≡◌, refl, ap, ◌∙◌, subst⁻¹}
use mathlib.Core.Bool.{Bool, true, false, not, ◌&&◌}
use mathlib.Core.List.{List, [], ◌∷◌, ◌++◌}
use Prim.Native.Nat.{ℕ, zero, suc, ◌+◌, ◌*◌, ◌≤◌, ◌<◌}
use native.Mathlib.Omega.{arith}
use lib.Dec.{lit<, ltb}
use lib.ListN.{length, get_or, take, replicate}
use lib.Seq.{take_at, drop-append-add}
use Rattle.octets.specs.Octets.{Bytes, part, fields_of, be_bytes}
use Rattle.octets.proofs.Numbers.{bytes_append, bytes_fields}
use Rattle.octets.proofs.Reading.{bytes_zeros}
use Rattle.crc32.specs.Crc32.{crc_of, sealed}
use Rattle.fate.specs.declared.Fate.{Fate}
use Rattle.fate.specs.declared.Fate.TheVariants.{Answered}
use Rattle.storage.specs.declared.slot.Slot.{Slot}
use Rattle.storage.specs.Sizes.{slot_layout, place_size, medium_size}
use Rattle.storage.specs.Slots.{slot_numbers, slot_bytes}
use Rattle.storage.specs.Layout.{padded, head_of}
use Rattle.storage.specs.Places.{valid_place}
use Rattle.storage.specs.Log.{place_at, mark_of}
use Rattle.storage.specs.Fresh.{fresh_medium, blank_slot}
use Rattle.storage.specs.Operations.{medium_at}
use Rattle.storage.proofs.Fresh.{fresh_medium_lem}
use Rattle.quorum.specs.Vote.{quorum}
use Rattle.cluster.specs.declared.Shape.{Shape}
use Rattle.cluster.specs.declared.Entry.{Entry}
use Rattle.cluster.specs.State.{fresh_entry, fresh_media, fresh, entry_at, is_restored}
use Rattle.cluster.specs.Refusals.{no_slot, promise_above, pass, first_of}
use Rattle.recovery.specs.Recovery.{Recovery, contains, recovery_rows}
use Rattle.recovery.specs.Arrival.{Typed, ready, counts, how_many, Met, Arrived}
use Rattle.recovery.proofs.Steady.{equal_at}
use Rattle.recovery.proofs.Own.{own}
use Rattle.recovery.proofs.Listed.{first_in, later_in, listed_below}
use Rattle.recovery.proofs.Copying.{slot_there}
use Rattle.recovery.proofs.Arrives.{arrives}

abbrev pub FreshArrives : Type 0
FreshArrives = (h : Shape) (d : Recovery) → first_of (recovery_rows h (fresh h) d) ≡ pass → d.fates ≡ [] → quorum h.replicas ≤ length d.listed → Arrived h (fresh h) d

-- ---- fresh media

media_at : (r N i : ℕ) → i < r → medium_at N i (fresh_media r N) ≡ fresh_medium N
unfolding fresh_media
media_at zero N i l = absurd (omega arith)
media_at (suc r) N zero l =
    let q : 0 * medium_size N ≡ 0 = omega arith in
    ap (λ (o : ℕ). part o (medium_size N) (fresh_medium N ++ fresh_media r N)) q
    ∙ take_at (fresh_medium N) (fresh_media r N) (medium_size N) (fresh_medium_lem N).sound.size
media_at (suc r) N (suc i) l =
    let q : suc i * medium_size N ≡ length (fresh_medium N) + i * medium_size N = omega (arith, (fresh_medium_lem N).sound.size) in
    ap (λ (o : ℕ). part o (medium_size N) (fresh_medium N ++ fresh_media r N)) q
    ∙ ap (take (medium_size N)) (drop-append-add (fresh_medium N) (fresh_media r N) (i * medium_size N))
    ∙ media_at r N i (omega arith)

low : (N : ℕ) → promise_above 1 (fresh_medium N) ≡ false
unfolding promise_above
low N = ap (λ (s : Slot). ltb 1 s.promise) (fresh_medium_lem N).slot

is_ready : (h : Shape) (i : ℕ) → i < h.replicas → ready h (fresh h) i ≡ true
unfolding fresh
is_ready h i l =
    let m = fresh_medium h.places in
    let q : (not (no_slot m) && not (promise_above 1 m)) ≡ true = rw (slot_there m (fresh_medium_lem h.places).valid, low h.places) in
    ap (λ (z : List ℕ). not (no_slot z) && not (promise_above 1 z)) (media_at h.replicas h.places i l) ∙ q

-- and none is restored
is_counted : (h : Shape) (i : ℕ) → i < h.replicas → counts h (fresh h) i ≡ true
unfolding fresh
is_counted h i l =
    let q : is_restored (entry_at (replicate 7 fresh_entry) i).closing ≡ false = ap (λ (e : Entry). is_restored e.closing) (equal_at 7 i fresh_entry) in
    ap (λ (b : Bool). b && not (is_restored (entry_at (replicate 7 fresh_entry) i).closing)) (is_ready h i l) ∙ ap not q

all_ready : (p : ℕ → Bool) (is : List ℕ) → ((i : ℕ) → contains is i ≡ true → p i ≡ true) → how_many p is ≡ length is
unfolding how_many
all_ready p [] f = refl
all_ready p (i ∷ is) f = let q = all_ready p is (λ j e. f j (later_in i j is e)) in rw (f i (first_in i is)) (omega (arith, q))

-- what is written is bytes
front_bytes : (s t : List ℕ) → Bytes (s ++ t) → Bytes s
front_bytes [] t b = tt
front_bytes (x ∷ s) t b = (b.0, front_bytes s t b.1)

slot_bytes_lem : (x : Slot) → Bytes (slot_bytes x)
unfolding slot_bytes sealed fields_of
slot_bytes_lem x =
    let head = head_of slot_layout (slot_numbers x) [] in
    let check = crc_of head in
    bytes_append head (be_bytes 4 check)
    (bytes_append (fields_of (slot_numbers x)) (padded slot_layout []) (bytes_fields (slot_numbers x)) (bytes_zeros 4))
    (front_bytes (be_bytes 4 check) [] (bytes_fields ((4, check) ∷ [])))

medium_bytes : (N : ℕ) → Bytes (fresh_medium N)
unfolding fresh_medium
medium_bytes N =
    let s = slot_bytes blank_slot in
    bytes_append s (s ++ replicate (place_size * N) 0) (slot_bytes_lem blank_slot) (bytes_append s (replicate (place_size * N) 0) (slot_bytes_lem blank_slot) (bytes_zeros (place_size * N)))

media_bytes : (r N : ℕ) → Bytes (fresh_media r N)
unfolding fresh_media
media_bytes zero N = tt
media_bytes (suc r) N = bytes_append (fresh_medium N) (fresh_media r N) (medium_bytes N) (media_bytes r N)

-- ---- the theorem

typed : (h : Shape) → Typed (fresh h)
unfolding fresh
typed h = record { servers = refl; session = lit< tt; bytes = media_bytes h.replicas h.places }

met : (h : Shape) (d : Recovery) → first_of (recovery_rows h (fresh h) d) ≡ pass → d.fates ≡ [] → quorum h.replicas ≤ length d.listed → Met h (fresh h) d
unfolding fresh
met h d e none many =
    let below = (own h (fresh h) d e).below in
    let N = h.places in
    let all = all_ready (counts h (fresh h)) d.listed (λ i q. is_counted h i (listed_below h.replicas i d.listed below q)) in
    record {
      admitted = e;
      answered = λ k l. ap (λ (fs : List Fate). get_or fs k Answered) none;
      below_top = refl;
      clean = λ i q n. subst⁻¹ (λ (m : List ℕ). mark_of N m < n → n ≤ N → valid_place n (place_at n m) ≡ false)
          (media_at h.replicas N i (listed_below h.replicas i d.listed below q)) ((fresh_medium_lem N).sound.clean n);
      enough = omega (arith, all, many);
    }

pub fresh_arrives : FreshArrives
fresh_arrives h d e none many = arrives h (fresh h) d (typed h) (met h d e none many)
