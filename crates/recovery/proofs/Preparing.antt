-- A prepare that is answered: a replica with a valid slot and a promise not above the session becomes a good one, and another is passed over. Then all prepares
-- of a list, one after another.
-- Assumes nothing.
use mathlib.Core.Path.{◌≡◌, refl, sym, ap, ◌∙◌, subst⁻¹}
use mathlib.Core.Bool.{Bool, true, false, cond, ◌||◌, false≢true}
use mathlib.Core.Logic.{⊎_elim}
use mathlib.Core.List.{List, [], ◌∷◌}
use Prim.Native.Nat.{ℕ, ◌+◌, ◌*◌, ◌^◌, ◌≤◌, ◌<◌}
use native.Mathlib.Omega.{arith}
use lib.ListN.{length}
use lib.Dec.{lit<}
use borrow.Author.Tests.{ltb-false, le-ltb, lt-leb}
use Rattle.base.proofs.Tests.{neither}
use Rattle.octets.specs.Octets.{Bytes}
use Rattle.octets.proofs.Laws.{length_part}
use Rattle.octets.proofs.Reading.{bytes_part, numbers_fit}
use Rattle.fate.specs.declared.Fate.TheVariants.{Answered, Cut}
use Rattle.fate.specs.declared.Left.TheVariants.{Torn}
use Rattle.fate.specs.Fates.{all_of, after}
use Rattle.storage.specs.declared.slot.Slot.{Slot}
use Rattle.storage.specs.declared.slot.Current.{Current}
use Rattle.storage.specs.declared.slot.Current.TheVariants.{First, Second, Neither}
use Rattle.storage.specs.declared.operation.Target.{Target}
use Rattle.storage.specs.Sizes.{slot_size, slots_size, medium_size, slot_layout}
use Rattle.storage.specs.Places.{wiped}
use Rattle.storage.specs.Slots.{slot_of, current_of, held_of, stored_slot, HasSlot, FittingSlot, first_of as first_slot, second_of as secondSlot}
use Rattle.storage.specs.Log.{mark_of, Sound}
use Rattle.storage.specs.Operations.{prepare_writes, medium_at}
use Rattle.storage.specs.Given.{Harmless}
use Rattle.storage.proofs.LogWrites.{length_wiped}
use Rattle.storage.proofs.Promises.{Prepared, Closed, prepares, prepares_all}
use Rattle.cluster.specs.declared.Shape.{Shape}
use Rattle.cluster.specs.declared.Server.{Server}
use Rattle.cluster.specs.State.{State, entry_at, active_at}
use Rattle.cluster.specs.Replies.{ok}
use Rattle.cluster.specs.Refusals.{no_slot, promise_above, refuses_prepare, Input, row, rows_of, Verdict, pass, declined, first_of}
use Rattle.cluster.specs.Effects.{with_replica, with_medium_and_server, target_of, prepare_effect}
use Rattle.cluster.specs.Step.{effect, unless, step}
use Rattle.cluster.proofs.AsStored.{media_size}
use Rattle.recovery.specs.Recovery as recovery
use Rattle.recovery.specs.Recovery.{Recovery, Trail, fate_at, one, played, preparing, server_of, contains, repeats, not_below}
use Rattle.recovery.proofs.Steady.{steady_prepare}
use Rattle.recovery.proofs.Counts.{played_more}
use Rattle.recovery.proofs.Listed.{first_unique, first_below, first_in, later_in, not_first, in_either, differs}
use Rattle.recovery.proofs.Underway.{Underway, Good, Same, same_state, same_then, still_good, underway_state, heard_underway, heard_other, heard_good}

-- ---- slots

-- an answered message is as one that no torn write can touch, whatever bytes lie beside it
answered_cut : (k : ℕ) → Answered ≡ Cut k Torn → ⊥
answered_cut k q = let z : ◌≡◌ {A = ℕ} 0 1 = cc in omega arith

pub harmless : (N : ℕ) → Harmless N Answered wiped
harmless N = record { size = length_wiped; torn = λ k q. absurd (answered_cut k q) }

has_slot_lem : (m : List ℕ) → no_slot m ≡ false → HasSlot m
unfolding no_slot
has_slot_lem m e z = false≢true (sym (rw z at e))

slot_fits : (s : List ℕ) → Bytes s → length s ≡ slot_size → FittingSlot (slot_of s)
unfolding slot_of
slot_fits s b e =
    let f = numbers_fit slot_layout.widths 0 s b (omega (arith, e)) in
    record { promise = f.0; low = f.1.0; local = f.1.1.0 }

-- the fields of a slot that is read are numbers of eight bytes
stored_fits : (m : List ℕ) → Bytes m → slots_size ≤ length m → FittingSlot (stored_slot m)
unfolding stored_slot
stored_fits m b l = go (current_of m)
  where
    go : (c : Current) → FittingSlot (held_of c m)
    go First = slot_fits (first_slot m) (bytes_part 0 slot_size m b) (length_part 0 slot_size m (omega (arith, l)))
    go Second = slot_fits (secondSlot m) (bytes_part slot_size slot_size m b) (length_part slot_size slot_size m (omega (arith, l)))
    go Neither = record { promise = lit< tt; low = lit< tt; local = lit< tt }

-- ---- one prepare

-- a replica that is listed and not prepared yet
pub record Waiting (h : Shape) (d : Recovery) (t : Trail) (i : ℕ) : Type 0 where
  pub sound : Sound h.places (medium_at h.places i t.state.media)
  pub bytes : Bytes (medium_at h.places i t.state.media)
  pub unknown : active_at (server_of d t) i ≡ false

-- and one that is: u is after its prepare, t before it
pub record Tried (h : Shape) (d : Recovery) (new : ℕ) (t u : Trail) (i : ℕ) : Type 0 where
  pub good : refuses_prepare new (medium_at h.places i t.state.media) ≡ false → Good h d new u i
  pub refused : refuses_prepare new (medium_at h.places i t.state.media) ≡ true → active_at (server_of d u) i ≡ false

module _ (h : Shape) (d : Recovery) (new : ℕ) (t : Trail) (U : Underway h d new t) (seven : h.replicas ≤ 7) (i : ℕ) (l : i < h.replicas)
    (a : fate_at d t.count ≡ Answered) where
  abbrev x : State
  x = t.state

  abbrev N : ℕ
  N = h.places

  abbrev v : Server
  v = server_of d t

  abbrev m : List ℕ
  m = medium_at N i x.media

  abbrev u : Trail
  u = one h t (preparing d t i)

  -- 1 to 6 are passed
  rows_left : first_of (rows_of h x (preparing d t i)) ≡ first_of (row 18 (no_slot m) ∷ row 19 (promise_above new m) ∷ [])
  unfolding first_of
  rows_left =
      rw (
        U.steady.inside,
        U.steady.fits,
        le-ltb 3 d.server (omega (arith, U.server)),
        lt-leb h.replicas i l,
        U.phase,
        a,
        U.session,
      )

  -- a replica that would decline is passed over, and the state stays
  declined_state : refuses_prepare new m ≡ true → u.state ≡ x
  unfolding step unless first_of
  declined_state e = ap (λ (w : Verdict). (unless w x (effect h x p p.call)).state) rows_left ∙ go (no_slot m) (promise_above new m) e
    where
      p : Input
      p = preparing d t i

      go : (b c : Bool) → (b || c) ≡ true
          → (unless (cond b (declined 18 []) (cond c (declined 19 []) pass)) x (effect h x p p.call)).state ≡ x
      go true c e = refl
      go false true e = refl
      go false false e = absurd (false≢true e)

  abbrev to : Target
  to = target_of (entry_at v.entries i).closing

  abbrev m' : List ℕ
  m' = all_of (prepare_writes N v.session to m) m

  abbrev w : Server
  w = with_replica v i true false (mark_of N m')

  -- one that does not
  done : refuses_prepare new m ≡ false → u ≡ record { state = with_medium_and_server N x d.server i m' w; reply = ok (mark_of N m' ∷ []); count = t.count + 1 }
  unfolding step unless first_of prepare_effect after
  done e =
      let n = neither (no_slot m) (promise_above new m) e in
      let q : first_of (rows_of h x (preparing d t i)) ≡ pass = rows_left ∙ rw (n.0, n.1) in
      rw (q, a, U.session, n.0, n.1)

  size : length x.media ≡ h.replicas * medium_size N
  size = media_size h (length x.media) (length x.tables) U.steady.inside

  -- what is left of its medium
  module _ (e : refuses_prepare new m ≡ false) (top : new < 2 ^ 64) (W : Waiting h d t i) where
    slot : HasSlot m
    slot = has_slot_lem m (neither (no_slot m) (promise_above new m) e).0

    not_above : (stored_slot m).promise ≤ v.session
    unfolding promise_above
    not_above = omega (arith, ltb-false new (stored_slot m).promise (neither (no_slot m) (promise_above new m) e).1, U.session)

    fitting : FittingSlot (stored_slot m)
    fitting = stored_fits m W.bytes (omega (arith, W.sound.size))

    kept : Prepared N v.session to m m'
    unfolding after
    kept = prepares N Answered wiped m W.sound (harmless N) v.session to slot fitting not_above (omega (arith, top, U.session))

    closed : Closed N v.session to m m'
    closed = prepares_all N v.session to m W.sound slot fitting not_above (omega (arith, top, U.session))

    prepared_good : Good h d new u i
    prepared_good =
        heard_good h d new t U i l seven m' kept.sound.size size u (ap (λ (z : Trail). z.state) (done e)) kept.valid
        (ap (λ (z : Slot). z.promise) closed.slot ∙ U.session) kept.sound

    prepared_underway : Underway h d new u
    prepared_underway =
        heard_underway h d new t U i l seven m' kept.sound.size size u (ap (λ (z : Trail). z.state) (done e)) (steady_prepare h d t i U.steady)

    prepared_other : (j : ℕ) → (j ≡ i → ⊥) → Same h d t u j
    prepared_other = heard_other h d new t U i l seven m' kept.sound.size size u (ap (λ (z : Trail). z.state) (done e))

  -- either way
  pub record One : Type 0 where
    pub underway : Underway h d new u
    pub others : (j : ℕ) → (j ≡ i → ⊥) → Same h d t u j
    pub tried : Tried h d new t u i

  pub prepare_one : new < 2 ^ 64 → Waiting h d t i → One
  prepare_one top W = go (refuses_prepare new m) refl
    where
      go : (b : Bool) → refuses_prepare new m ≡ b → One
      go true e =
          record {
            underway = underway_state h d new t u (declined_state e) U;
            others = λ j n. same_state h d t u j (declined_state e);
            tried = record {
              good = λ q. absurd (false≢true (sym q ∙ e));
              refused = λ q. (same_state h d t u i (declined_state e)).active ∙ W.unknown;
            };
          }
      go false e =
          record {
            underway = prepared_underway e top W;
            others = prepared_other e top W;
            tried = record { good = λ q. prepared_good e top W; refused = λ q. absurd (false≢true (sym e ∙ q)) };
          }

-- ---- all of a list

still_waiting : (h : Shape) (d : Recovery) (t u : Trail) (i : ℕ) → Same h d t u i → Waiting h d t i → Waiting h d u i
still_waiting h d t u i e w =
    record { sound = subst⁻¹ (Sound h.places) e.medium w.sound; bytes = subst⁻¹ Bytes e.medium w.bytes; unknown = e.active ∙ w.unknown }

-- what was tried later was the same before, and what was tried stays so
tried_later : (h : Shape) (d : Recovery) (new : ℕ) (t u z : Trail) (i : ℕ) → Same h d t u i → Tried h d new u z i → Tried h d new t z i
tried_later h d new t u z i e r =
    record {
      good = λ q. r.good (ap (refuses_prepare new) e.medium ∙ q);
      refused = λ q. r.refused (ap (refuses_prepare new) e.medium ∙ q);
    }

tried_still : (h : Shape) (d : Recovery) (new : ℕ) (t u z : Trail) (i : ℕ) → Same h d u z i → Tried h d new t u i → Tried h d new t z i
tried_still h d new t u z i e r =
    record { good = λ q. still_good h d new u z i e (r.good q); refused = λ q. e.active ∙ r.refused q }

module _ (h : Shape) (d : Recovery) (new : ℕ) (seven : h.replicas ≤ 7) (top : new < 2 ^ 64) where
  abbrev after_all_lem : Trail → List ℕ → Trail
  after_all_lem t is = played h t (recovery.prepares h d t is)

  pub record All (t : Trail) (is : List ℕ) : Type 0 where
    pub underway : Underway h d new (after_all_lem t is)
    pub others : (j : ℕ) → contains is j ≡ false → Same h d t (after_all_lem t is) j
    pub tried : (i : ℕ) → contains is i ≡ true → Tried h d new t (after_all_lem t is) i

  pub prepare_all : (is : List ℕ) (t : Trail) → Underway h d new t
      → repeats is ≡ false → not_below h.replicas is ≡ false
      → ((i : ℕ) → contains is i ≡ true → Waiting h d t i)
      → ((k : ℕ) → k < (after_all_lem t is).count → fate_at d k ≡ Answered)
      → All t is
  unfolding played recovery.prepares contains
  prepare_all [] t U once below W A = record { underway = U; others = λ j e. same_state h d t t j refl; tried = λ i e. absurd (false≢true e) }
  prepare_all (i ∷ is) t U once below W A =
      let u = one h t (preparing d t i) in
      let f = first_unique i is once in
      let l = first_below h.replicas i is below in
      let o = prepare_one h d new t U seven i l.0 (A t.count (omega (arith, played_more h u (recovery.prepares h d u is)))) top (W i (first_in i is)) in
      let apart : (j : ℕ) → contains is j ≡ true → j ≡ i → ⊥ = λ j e. differs i j is e f.0 in
      let r = prepare_all is u o.underway f.1 l.1 (λ j e. still_waiting h d t u j (o.others j (apart j e)) (W j (later_in i j is e))) A in
      let z = after_all_lem u is in
      record {
        underway = r.underway;
        others = λ j e. let n = not_first i j is e in same_then h d t u z j (o.others j n.0) (r.others j n.1);
        tried = λ j e. ⊎_elim
            (λ q. subst⁻¹ (Tried h d new t z) q (tried_still h d new t u z i (r.others i f.0) o.tried))
            (λ q. tried_later h d new t u z j (o.others j (apart j q)) (r.tried j q))
            (in_either i j is e);
      }
