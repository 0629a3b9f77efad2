-- What is heard of an operation, and the media then, are what the message does unless the replica declines it.
-- Assumes nothing.
use mathlib.Core.Path.{◌≡◌, refl, ap, ◌∙◌}
use mathlib.Core.Bool.{Bool, true, false, cond, ◌&&◌, ◌||◌}
use mathlib.Core.List.{List, [], ◌∷◌}
use Prim.Native.Nat.{ℕ, ◌+◌, ◌-◌, ◌*◌, ◌≤◌}
use native.Mathlib.Omega.{arith}
use lib.ListN.{length, take, drop, take-append-drop}
use lib.Seq.{drop-drop}
use borrow.Rule.Slice.PartMut.{put_mid}
use Rattle.octets.specs.Octets.{part, write_at}
use Rattle.octets.proofs.Laws.{length_part, between_part, mid_write}
use Rattle.fate.specs.declared.Fate.{Fate}
use Rattle.storage.specs.declared.operation.Operation.{Operation}
use Rattle.storage.specs.Sizes.{medium_size}
use Rattle.storage.specs.Log.{place_at, mark_of}
use Rattle.storage.specs.Operations.{writes_of, medium_at, with_medium}
use Rattle.segment.specs.declared.header.Stamp.{Stamp}
use Rattle.cluster.specs.declared.Shape.{Shape}
use Rattle.cluster.specs.declared.Records.{Records}
use Rattle.cluster.specs.declared.Server.{Server}
use Rattle.cluster.specs.declared.Refusal.TheVariants.{NoSlot, OtherPromise, OtherMark}
use Rattle.cluster.specs.declared.Outcome.{Outcome}
use Rattle.cluster.specs.declared.Call.TheVariants as call
use Rattle.cluster.specs.State.{server_at, mark_at}
use Rattle.cluster.specs.Refusals.{no_slot, promise_differs, mark_differs, answered, exported_places, other_sizes, row, first_of}
use Rattle.cluster.specs.Effects.{Result, medium_after, unheard, read_effect, export_effect}
use Rattle.cluster.specs.Step.{unless, rest, once_sent}
use Rattle.replica_checks.specs.declared.Heard.{Heard}
use Rattle.replica_checks.specs.declared.Heard.TheVariants.{Silent}
use Rattle.replica_checks.specs.Says.{says}
use Rattle.replica.specs.Answers.{prepares, other_promise, other_mark, declines, Answered, answer_to, read_heard}
use Rattle.checks.specs.declared.Change.{Change}
use Rattle.checks.specs.Results.{files_of, state_of, input_of, export_of, result_of, changed}
use Rattle.checks.proofs.Frame.{declined_server}
use Rattle.hearing.specs.Hearing.{on_heard, counted, after_answer, after_silence, read_by, export_by}
use Rattle.delivery.specs.Messages.{appends, operation_effect, operated}

-- ---- one medium of the media

-- what `&mut media[at..end]` lends, and what it leaves when it comes back
module _ (at end : ℕ) (media : List ℕ) where
  abbrev pub lent : List ℕ
  lent = take (end - at) (drop at media)

  abbrev pub back : List ℕ → List ℕ
  back m = put_mid at (end - at) media m

-- from at to end lies replica i's medium
pub record Spans (N i at end : ℕ) : Type 0 where
  pub starts : at ≡ i * medium_size N
  pub ends : end ≡ i * medium_size N + medium_size N

module _ (N i at end : ℕ) (media : List ℕ) (w : Spans N i at end) where
  pub lent_is : lent at end media ≡ medium_at N i media
  lent_is = rw (w.starts, w.ends) (between_part (i * medium_size N) (medium_size N) media)

  pub lent_size : i * medium_size N + medium_size N ≤ length media → length (lent at end media) ≡ medium_size N
  lent_size fits = ap length lent_is ∙ length_part (i * medium_size N) (medium_size N) media fits

  pub back_is : i * medium_size N + medium_size N ≤ length media → (m : List ℕ) → length m ≡ length (lent at end media) → back at end media m ≡ with_medium N i m media
  back_is fits m e =
      rw (w.starts, w.ends) (mid_write (i * medium_size N) (i * medium_size N + medium_size N) media m m (omega (arith, e ∙ lent_size fits)) refl)

pub medium_length : (N i : ℕ) (media : List ℕ) → i * medium_size N + medium_size N ≤ length media → length (medium_at N i media) ≡ medium_size N
medium_length N i media fits = length_part (i * medium_size N) (medium_size N) media fits

-- a part written where it stands
write_back : (o n : ℕ) (m : List ℕ) → o + n ≤ length m → write_at o (part o n m) m ≡ m
unfolding write_at
write_back o n m l = rw (length_part o n m l, ← (drop-drop n o m), take-append-drop n (drop o m), take-append-drop o m)

-- ---- what is heard, and what the message does

module _ (r : Records) (media tables : List ℕ) (s : ℕ) where
  -- the number n is answered, a decline is reported and leaves the media, or the replica is silent
  says_result :
      (ans a b c : Bool) (n : ℕ) (m : List ℕ) (done : ℕ → Change) (quiet : Change) (e : Result)
      → ((a || b || c) ≡ true → m ≡ media)
      → (ans ≡ true → result_of (changed r s (done n)) m tables ≡ e)
      → (ans ≡ false → result_of (changed r s quiet) m tables ≡ e)
      → result_of (changed r s (on_heard (server_at r s) done quiet (cond ans (says a b c n) Silent))) m tables
      ≡ rest (row 18 (ans && a) ∷ row 19 (ans && b) ∷ row 20 (ans && c) ∷ []) (state_of r media tables) e
  unfolding on_heard unless first_of
  says_result true true b c n m done quiet e k d q = rw (k refl) (ap (λ (o : Outcome). result_of o media tables) (declined_server r s NoSlot))
  says_result true false true c n m done quiet e k d q = rw (k refl) (ap (λ (o : Outcome). result_of o media tables) (declined_server r s OtherPromise))
  says_result true false false true n m done quiet e k d q = rw (k refl) (ap (λ (o : Outcome). result_of o media tables) (declined_server r s OtherMark))
  says_result true false false false n m done quiet e k d q = d refl
  says_result false a b c n m done quiet e k d q = q refl

-- a message to replica i, by server s whose record is v: the medium came back with m on it, and o was heard
module _ (h : Shape) (r : Records) (media tables : List ℕ) (s i : ℕ) (p : Operation) (bs : List ℕ) (f : Fate) (given : List ℕ)
    (fits : i * medium_size h.places + medium_size h.places ≤ length media) (at end : ℕ) (w : Spans h.places i at end)
    (o : Heard) (m : List ℕ) (kept : length m ≡ length (lent at end media))
  where
    -- what the server makes of it
    abbrev made : Server → Change
    made v = on_heard v (after_answer (appends p) h.replicas v i) (after_silence (counted (appends p) h.replicas v.phase (unheard v i))) o

    abbrev Answers : Server → Type 0
    Answers v = record { heard = o; medium = m } ≡ answer_to h.places v.session (mark_at v i) p bs f given (lent at end media)

    by_record : Answers (server_at r s) → result_of (changed r s (made (server_at r s))) (back at end media m) tables ≡ operated h (state_of r media tables) s i p bs f given
    unfolding operation_effect answer_to
    by_record t =
        let v = server_at r s in
        let N = h.places in
        let mine = medium_at N i media in
        let d = declines (prepares p) N v.session (mark_at v i) mine in
        let m' = medium_after d f given (writes_of N bs p mine) mine in
        let e : record { heard = o; medium = m } ≡ answer_to N v.session (mark_at v i) p bs f given mine = rw (lent_is N i at end media w) at t in
        rw (back_is N i at end media w fits m kept, ap (λ (x : Answered). x.heard) e, ap (λ (x : Answered). x.medium) e)
        (says_result r media tables s (answered f) (no_slot mine) (other_promise (prepares p) v.session mine) (other_mark (prepares p) N (mark_at v i) mine)
        (mark_of N m') (with_medium N i m' media) (after_answer (appends p) h.replicas v i) (after_silence (counted (appends p) h.replicas v.phase (unheard v i)))
        (operation_effect h (state_of r media tables) s i p bs f given)
        (λ q. rw q (write_back (i * medium_size N) (medium_size N) media fits)) (λ a. rw a) (λ a. rw a))

    pub delivered :
        (v : Server)
        → server_at r s ≡ v
        → Answers v
        → {c : Change}
        → c ≡ made v
        → result_of (changed r s c) (back at end media m) tables ≡ operated h (state_of r media tables) s i p bs f given
    delivered v q t d = rw (d, ← q) (by_record (rw q t))

-- read writes nothing
pub read_heard_lem :
    (h : Shape) (r : Records) (media tables : List ℕ) (s i n : ℕ) (f : Fate) (given : List ℕ) (o : Heard)
    → o ≡ read_heard h.places (server_at r s).session (mark_at (server_at r s) i) f (medium_at h.places i media)
    → result_of (read_by r s i (place_at n (medium_at h.places i media)) o) media tables
    ≡ once_sent h (state_of r media tables) (input_of (call.Read s i n f) given)
unfolding unless first_of read_by read_effect read_heard
read_heard_lem h r media tables s i n f given o t =
    let v = server_at r s in
    let m = medium_at h.places i media in
    rw t (go (answered f) refl (no_slot m) (promise_differs v.session m) (mark_differs h.places (mark_at v i) m))
  where
    x : Result
    x = read_effect h.places (state_of r media tables) s i n f

    go : (ans : Bool) → answered f ≡ ans → (a b c : Bool)
        → result_of (read_by r s i (place_at n (medium_at h.places i media)) (cond ans (says a b c (mark_of h.places (medium_at h.places i media))) Silent)) media tables
        ≡ rest (row 18 (ans && a) ∷ row 19 (ans && b) ∷ row 20 (ans && c) ∷ []) (state_of r media tables) x
    go true e true b c = refl
    go true e false true c = refl
    go true e false false true = refl
    go true e false false false = rw e
    go false e a b c = rw e

-- export too; its files are looked at behind the replica's rows
pub export_heard :
    (h : Shape) (r : Records) (media tables : List ℕ) (s i : ℕ) (f : Fate) (given : List ℕ) (z : Stamp) (data_file index_file : List ℕ) (o : Heard)
    → o ≡ read_heard h.places (server_at r s).session (mark_at (server_at r s) i) f (medium_at h.places i media)
    → result_of (export_by r s i (other_sizes (exported_places h.places (server_at r s) i media) (files_of data_file index_file)) o) media tables
    ≡ once_sent h (state_of r media tables) (export_of (call.Export s i f) given z data_file index_file)
unfolding unless first_of read_by export_by export_effect read_heard
export_heard h r media tables s i f given z data_file index_file o t =
    let v = server_at r s in
    let m = medium_at h.places i media in
    rw t (go (answered f) refl (no_slot m) (promise_differs v.session m) (mark_differs h.places (mark_at v i) m) (other_sizes (exported_places h.places v i media) (files_of data_file index_file)))
  where
    x : Result
    x = export_effect h.places (state_of r media tables) s i f

    go : (ans : Bool) → answered f ≡ ans → (a b c d : Bool)
        → result_of (export_by r s i d (cond ans (says a b c (mark_of h.places (medium_at h.places i media))) Silent)) media tables
        ≡ rest (row 18 (ans && a) ∷ row 19 (ans && b) ∷ row 20 (ans && c) ∷ row 1 (ans && d) ∷ []) (state_of r media tables) x
    go true e true b c d = refl
    go true e false true c d = refl
    go true e false false true d = refl
    go true e false false false true = refl
    go true e false false false false = rw e
    go false e a b c d = rw e
