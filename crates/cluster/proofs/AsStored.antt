-- What is read, copied and sent is the record as it stands, whatever bytes it has. Document 02, No. 8: "Stored ones stay readable, are copied in recovery": a
-- read that is answered ok gives the place's bytes (`read_as_stored`), a copy leaves in the place behind b's mark what stands in a's (`copied_as_stored`), a
-- send what the server holds (`sent_as_held`; the eight records have their 576 bytes, as their type says). Of an export that is Exports.antt `exports`.
-- The statements come first, then their proofs.
-- Assumes nothing.
use mathlib.Core.Path.{◌≡◌, ap, ◌∙◌}
use mathlib.Core.Bool.{Bool, true, false, not, ◌&&◌, ◌||◌, false≢true}
use mathlib.Core.List.{List}
use Prim.Native.Nat.{ℕ, ◌+◌, ◌*◌, ◌≤◌, ◌<◌}
use native.Mathlib.Omega.{arith}
use lib.ListN.{length}
use lib.Dec.{eqb, leb}
use borrow.Author.Tests.{not-false, eqb-true, leb-false, ltb-true, ltb-false}
use Rattle.base.proofs.Tests.{neither}
use Rattle.octets.specs.Octets.{write_at}
use Rattle.octets.proofs.Laws.{length_part, length_write}
use Rattle.fate.specs.declared.Fate.{Fate}
use Rattle.fate.specs.declared.Fate.TheVariants.{Answered, Lost, AnswerLost, Cut}
use Rattle.fate.specs.Fates.{all_of, after}
use Rattle.storage.specs.Sizes.{places_limit, place_size, medium_size, place_offset}
use Rattle.storage.specs.Log.{place_at}
use Rattle.storage.specs.Operations.{medium_at}
use Rattle.storage.proofs.Blocks.{place_same}
use Rattle.segment.specs.declared.header.Stamp.{Stamp}
use Rattle.segment.specs.Pair.{Files}
use Rattle.cluster.specs.declared.Shape.{Shape}
use Rattle.cluster.specs.declared.Server.{Server}
use Rattle.cluster.specs.declared.Call.TheVariants as call
use Rattle.cluster.specs.State.{State, table_size, held_size, server_at, mark_at, index_of, record_of}
use Rattle.cluster.specs.Replies.{ok}
use Rattle.cluster.specs.Refusals.{replicas_fit, outside, answered, no_slot, promise_differs, mark_differs, refuses_at, rows_of}
use Rattle.cluster.specs.Effects.{read_effect, append_effect}
use Rattle.cluster.specs.Step.{effect, unless, step}
use Rattle.cluster.proofs.Blocks.{room, block_same}
use Rattle.cluster.proofs.Rows.{passed}
use Rattle.cluster.proofs.Marks.{marks_fit}
use Rattle.cluster.proofs.Numbers.{making, ok_passes}
use Rattle.cluster.proofs.Reading.{is_answered_lem}
use Rattle.cluster.proofs.Window.{within}

-- ---- the statements

abbrev pub ReadAsStored : Type 0
ReadAsStored =
    (h : Shape) (x : State) (s i n : ℕ) (f : Fate) (content locks given : List ℕ) (stamp : Stamp) (files : Files) (backup : List ℕ) (values : List ℕ)
    → let r = step h x (making (call.Read s i n f) content locks given stamp files backup) in
    r.reply ≡ ok values
    → r.bytes ≡ place_at n (medium_at h.places i x.media)

abbrev pub CopiedAsStored : Type 0
CopiedAsStored =
    (h : Shape) (x : State) (s a b : ℕ) (f : Fate) (content locks given : List ℕ) (stamp : Stamp) (files : Files) (backup : List ℕ) (values : List ℕ)
    → let r = step h x (making (call.Copy s a b f) content locks given stamp files backup) in
    let n = mark_at (server_at x.records s) b + 1 in
    r.reply ≡ ok values
    → place_at n (medium_at h.places b r.state.media) ≡ place_at n (medium_at h.places a x.media)

abbrev pub SentAsHeld : Type 0
SentAsHeld =
    (h : Shape) (x : State) (s i : ℕ) (f : Fate) (content locks given : List ℕ) (stamp : Stamp) (files : Files) (backup : List ℕ) (values : List ℕ)
    → let r = step h x (making (call.Send s i f) content locks given stamp files backup) in
    let v = server_at x.records s in
    let n = mark_at v i + 1 in
    length v.held ≡ held_size
    → r.reply ≡ ok values
    → place_at n (medium_at h.places i r.state.media) ≡ record_of v n

-- ---- a record in the place behind a mark

pub place_length : (N n : ℕ) (m : List ℕ) → length m ≡ medium_size N → 1 ≤ n → n ≤ N → length (place_at n m) ≡ place_size
unfolding place_at
place_length N n m e lo hi = length_part (place_offset n) place_size m (omega (arith, e))

-- what an append that is answered and not declined leaves: bs stands in the place behind b's mark
module _ (r N : ℕ) (x : State) (s b : ℕ) (bs given : List ℕ) (size : length x.media ≡ r * medium_size N) (named : b < r) where
  abbrev v : Server
  v = server_at x.records s

  abbrev m : List ℕ
  m = medium_at N b x.media

  medium_size_lem : length m ≡ medium_size N
  medium_size_lem = length_part (b * medium_size N) (medium_size N) x.media (room (medium_size N) r b x.media named size)

  appended : (f : Fate) → answered f ≡ true → refuses_at N v x.media b ≡ false → mark_at v b < N → length bs ≡ place_size
      → place_at (mark_at v b + 1) (medium_at N b (append_effect r N x s b bs f given).state.media) ≡ bs
  unfolding append_effect after all_of
  appended Answered a d l full =
      let n = mark_at v b + 1 in
      let new = write_at (place_offset n) bs m in
      let long : length new ≡ medium_size N = length_write (place_offset n) bs m (omega (arith, medium_size_lem, full, l)) ∙ medium_size_lem in
      rw d (ap (place_at n) (block_same (medium_size N) r b new x.media named long size) ∙ place_same N m bs medium_size_lem n (omega arith) (omega arith) full)
  appended Lost a d l full = absurd (false≢true a)
  appended AnswerLost a d l full = absurd (false≢true a)
  appended (Cut w k) a d l full = absurd (false≢true a)

-- ---- what the passed rows leave known

-- 1
pub media_size : (h : Shape) (media tables : ℕ) → outside h media tables ≡ false → media ≡ h.replicas * medium_size h.places
unfolding outside
media_size h media tables e =
    let fits = eqb media (h.replicas * medium_size h.places) in
    let before =
    not (replicas_fit h.replicas)
    || not (leb 1 h.places && leb h.places places_limit)
    || not (leb 1 h.interval && leb h.interval h.places) in
    eqb-true media (h.replicas * medium_size h.places)
    (not-false fits (neither before (not fits) (neither (before || not fits) (not (eqb tables (4 * table_size))) e).0).1)

-- 18 to 20, of a message that is answered
not_refused : (N : ℕ) (v : Server) (media : List ℕ) (i : ℕ) (t : Bool) → t ≡ true
    → (t && no_slot (medium_at N i media)) ≡ false
    → (t && promise_differs v.session (medium_at N i media)) ≡ false
    → (t && mark_differs N (mark_at v i) (medium_at N i media)) ≡ false
    → refuses_at N v media i ≡ false
not_refused N v media i true a slot promise mark = rw (slot, promise, mark)
not_refused N v media i false a slot promise mark = absurd (false≢true a)

-- ---- their proofs

pub read_as_stored : ReadAsStored
unfolding step unless read_effect
read_as_stored h x s i n f content locks given stamp files backup values q =
    let p = making (call.Read s i n f) content locks given stamp files backup in
    let through = ok_passes (rows_of h x p) x (effect h x p p.call) values q in
    let a = is_answered_lem (answered f) _ values (rw through at q) in
    rw (through, a)

pub copied_as_stored : CopiedAsStored
unfolding step unless append_effect
copied_as_stored h x s a b f content locks given stamp files backup values q =
    let p = making (call.Copy s a b f) content locks given stamp files backup in
    let through = ok_passes (rows_of h x p) x (effect h x p p.call) values q in
    let none = passed (rows_of h x p) through in
    let v = server_at x.records s in
    let N = h.places in
    let size = media_size h (length x.media) (length x.tables) (none 1) in
    let two = (neither (leb h.replicas a || leb h.replicas b) (eqb a b) (none 4)).0 in
    let named-a = leb-false h.replicas a (neither (leb h.replicas a) (leb h.replicas b) two).0 in
    let named-b = leb-false h.replicas b (neither (leb h.replicas a) (leb h.replicas b) two).1 in
    let fits = (marks_fit h x.records s (omega (arith, ltb-false 3 s (none 3))) (none 2)).marks a named-a in
    let below = ltb-true (mark_at v b) (mark_at v a) (not-false _ (none 16)) in
    let n = mark_at v b + 1 in
    let bs = place_at n (medium_at N a x.media) in
    let full : length bs ≡ place_size = place_length N n (medium_at N a x.media) (medium_size_lem h.replicas N x s a bs given size named-a) (omega arith) (omega (arith, fits, below)) in
    let t = is_answered_lem (answered f) _ values (rw through at q) in
    rw through (appended h.replicas N x s b bs given size named-b f t (not_refused N v x.media b (answered f) t (none 18) (none 19) (none 20)) (omega (arith, fits, below)) full)

pub sent_as_held : SentAsHeld
unfolding step unless append_effect
sent_as_held h x s i f content locks given stamp files backup values held q =
    let p = making (call.Send s i f) content locks given stamp files backup in
    let through = ok_passes (rows_of h x p) x (effect h x p p.call) values q in
    let none = passed (rows_of h x p) through in
    let v = server_at x.records s in
    let N = h.places in
    let size = media_size h (length x.media) (length x.tables) (none 1) in
    let named = leb-false h.replicas i (none 4) in
    let fits = (marks_fit h x.records s (omega (arith, ltb-false 3 s (none 3))) (none 2)).issued in
    let n = mark_at v i + 1 in
    let is = within v n (not-false _ (none 16)) in
    let bs = record_of v n in
    let full : length bs ≡ place_size = length_part (index_of v.issued n * place_size) place_size v.held (omega (arith, held)) in
    let t = is_answered_lem (answered f) _ values (rw through at q) in
    rw through (appended h.replicas N x s i bs given size named f t (not_refused N v x.media i (answered f) t (none 18) (none 19) (none 20)) (omega (arith, fits, is.reached)) full)
