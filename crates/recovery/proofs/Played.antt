-- Calls played one after another: what is left after some of them, for a loop over the listed replicas and for one over the copies of a replica.
-- Assumes nothing.
use mathlib.Core.Path.{◌≡◌, refl, sym, ap, ap₂, ◌∙◌}
use mathlib.Core.Bool.{Bool, true, false}
use mathlib.Core.List.{List, [], ◌∷◌, ◌++◌}
use Prim.Native.Nat.{ℕ, zero, suc, ◌+◌, ◌-◌, ◌≤◌, ◌<◌}
use native.Mathlib.Numerals.{add-one}
use native.Mathlib.Omega.{arith}
use lib.Dec.{ltb}
use borrow.Author.Tests.{lt-ltb, le-ltb}
use lib.ListN.{length, drop, get_or, drop_of_length-le}
use lib.Seq.{drop-cons}
use Rattle.cluster.specs.declared.Shape.{Shape}
use Rattle.cluster.specs.State.{State, active_at, mark_at}
use Rattle.cluster.specs.Replies.{no, silent}
use Rattle.cluster.specs.Refusals.{pass, declined, first_of}
use Rattle.recovery.specs.Recovery.{Recovery, Trail, one, played, taking, preparing, copying, opening, is_ok, server_of, prepares, highest_known, first_at, copies, lacks, copies_to, all_copies, catching_up, after_take, from_take, recovery_rows, begun, calls_of, recovered}
use Rattle.recovery.proofs.Counts.{played_join}

-- ---- a walk over a list, one element after another

unfoldable pub over : {A : Type 0} → (A → ℕ → A) → A → List ℕ → A
over f t [] = t
over f t (i ∷ is) = over f (f t i) is

module _ {A : Type 0} (f : A → ℕ → A) where
  -- a loop over the list: z is what the walk over all of it comes to, t what is come to at k; a turn of the loop at k, and its end
  module _ {z t : A} (l : List ℕ) (k : ℕ) (e : z ≡ over f t (drop k l)) where
    pub over_turn : {t' : A} → k < length l → t' ≡ f t (get_or l k 0) → z ≡ over f t' (drop (k + 1) l)
    unfolding over
    over_turn h q = rw (add-one, q) (e ∙ rw (drop-cons l k 0 h))

    pub over_end : length l ≤ k → t ≡ z
    unfolding over
    over_end h = sym (e ∙ rw (drop_of_length-le l h))

module _ (h : Shape) (d : Recovery) where
  -- ---- the prepares

  abbrev pub prepared : Trail → ℕ → Trail
  prepared t i = one h t (preparing d t i)

  pub prepares_over : (t : Trail) (l : List ℕ) → played h t (prepares h d t l) ≡ over prepared t l
  unfolding played prepares over
  prepares_over t [] = refl
  prepares_over t (i ∷ is) = prepares_over (prepared t i) is

  pub prepares_length : (t : Trail) (l : List ℕ) → length (prepares h d t l) ≡ length l
  unfolding prepares
  prepares_length t [] = refl
  prepares_length t (i ∷ is) = ap suc (prepares_length (prepared t i) is)

  -- ---- the copies of one replica, of which so many turns are left

  module _ (a m b : ℕ) where
    abbrev pub copied : Trail → Trail
    copied t = one h t (copying d t a b)

    abbrev pub copied_up : ℕ → Trail → Trail
    copied_up turns t = played h t (copies h d a m b turns t)

    none : (t : Trail) (left : ℕ) → left ≤ 0 → copied_up left t ≡ t
    unfolding played copies
    none t zero l = refl
    none t (suc left) l = absurd (omega arith)

    done : (t : Trail) (left : ℕ) → ltb (mark_at (server_of d t) b) m ≡ false → copied_up left t ≡ t
    unfolding played copies
    done t zero e = refl
    done t (suc left) e = rw e

    stop : (t : Trail) (left : ℕ) → 0 < left → ltb (mark_at (server_of d t) b) m ≡ true → is_ok (copied t).reply ≡ false → copied_up left t ≡ copied t
    unfolding played copies
    stop t zero l e o = absurd (omega arith)
    stop t (suc left) l e o = rw (e, o)

    goes : (t : Trail) (left : ℕ) → 0 < left → ltb (mark_at (server_of d t) b) m ≡ true → is_ok (copied t).reply ≡ true → copied_up left t ≡ copied_up (left - 1) (copied t)
    unfolding played copies
    goes t zero l e o = absurd (omega arith)
    goes t (suc left) l e o =
        let q : suc left - 1 ≡ left = omega arith in
        rw (e, o, q)

    -- the loop: z is what all turns come to, t what is come to with so many left
    module _ {z : Trail} (t : Trail) (left : ℕ) (e : z ≡ copied_up left t) where
      pub copies_none : left ≤ 0 → t ≡ z
      copies_none l = sym (e ∙ none t left l)

      -- n is the mark that b has, t' what a copy leaves, x whether it was ok
      module _ {n : ℕ} (q : n ≡ mark_at (server_of d t) b) where
        pub copies_done : m ≤ n → t ≡ z
        copies_done l = sym (e ∙ done t left (ap (λ (k : ℕ). ltb k m) (sym q) ∙ le-ltb n m l))

        module _ (l : 0 < left) (w : n < m) {t' : Trail} (made : t' ≡ copied t) {x : Bool} (ok : x ≡ is_ok t'.reply) where
          below : ltb (mark_at (server_of d t) b) m ≡ true
          below = ap (λ (k : ℕ). ltb k m) (sym q) ∙ lt-ltb n m w

          answer : x ≡ is_ok (copied t).reply
          answer = ok ∙ ap (λ (u : Trail). is_ok u.reply) made

          pub copies_stop : x ≡ false → t' ≡ z
          copies_stop o = made ∙ sym (e ∙ stop t left l below (sym answer ∙ o))

          pub copies_on : x ≡ true → z ≡ copied_up (left - 1) t'
          copies_on o = e ∙ goes t left l below (sym answer ∙ o) ∙ ap (copied_up (left - 1)) (sym made)

  -- ---- the copies of all

  abbrev pub caught_up : ℕ → ℕ → Trail → ℕ → Trail
  caught_up a m t b = played h t (copies_to h d a m b t)

  -- x is whether b is known, n what it lacks
  module _ (a m b : ℕ) (t : Trail) {x : Bool} (q : x ≡ active_at (server_of d t) b) where
    pub passed_over : x ≡ false → t ≡ caught_up a m t b
    unfolding played
    passed_over e = rw (sym q ∙ e)

    pub brought_up : {n : ℕ} {z : Trail} → x ≡ true → n ≡ lacks (server_of d t) m b → z ≡ copied_up a m b n t → z ≡ caught_up a m t b
    brought_up e l r = rw (sym q ∙ e) (r ∙ ap (λ (n : ℕ). copied_up a m b n t) l)

  pub all_copies_over : (a m : ℕ) (t : Trail) (l : List ℕ) → played h t (all_copies h d a m t l) ≡ over (caught_up a m) t l
  unfolding played all_copies over
  all_copies_over a m t [] = refl
  all_copies_over a m t (b ∷ bs) =
      played_join h t (copies_to h d a m b t) (all_copies h d a m (caught_up a m t b) bs) ∙ all_copies_over a m (caught_up a m t b) bs

  -- m is the highest mark known, a the first that has it
  pub caught_up_is :
      {m a : ℕ} {z : Trail} (t : Trail)
      → m ≡ highest_known (server_of d t) d.listed
      → a ≡ first_at (server_of d t) m d.listed
      → z ≡ played h t (all_copies h d a m t d.listed)
      → z ≡ played h t (catching_up h d t)
  caught_up_is t em ea e =
      e
      ∙ ap₂ (λ (i n : ℕ). played h t (all_copies h d i n t d.listed)) (ea ∙ ap (λ (n : ℕ). first_at (server_of d t) n d.listed) em) em

  -- ---- the whole: z is what is come to at the end

  -- u is what the prepares leave, v what the copies leave
  pub after_take_is :
      {u v z : Trail} (t : Trail)
      → u ≡ played h t (prepares h d t d.listed)
      → v ≡ played h u (catching_up h d u)
      → z ≡ one h v (opening d v)
      → z ≡ played h t (after_take h d t)
  unfolding played after_take
  after_take_is t eu ev ez =
      let ps = prepares h d t d.listed in
      let cs = catching_up h d (played h t ps) in
      let os = opening d (played h (played h t ps) cs) ∷ [] in
      ez
      ∙ ap (λ (y : Trail). one h y (opening d y)) (ev ∙ ap (λ (y : Trail). played h y (catching_up h d y)) eu)
      ∙ sym (played_join h t ps (cs ++ os) ∙ played_join h (played h t ps) cs os)

  -- u is what the take leaves, x whether it was ok
  module _ {u : Trail} {x : Bool} (t : Trail) (made : u ≡ one h t (taking d t)) (ok : x ≡ is_ok u.reply) where
    answer_is : x ≡ is_ok (one h t (taking d t)).reply
    answer_is = ok ∙ ap (λ (y : Trail). is_ok y.reply) made

    pub from_take_ends : x ≡ false → u ≡ played h t (from_take h d t)
    unfolding played from_take
    from_take_ends o = rw (sym answer_is ∙ o) made

    pub from_take_goes_on : {z : Trail} → x ≡ true → z ≡ played h u (after_take h d u) → z ≡ played h t (from_take h d t)
    unfolding played from_take
    from_take_goes_on o e = rw (sym answer_is ∙ o) (e ∙ ap (λ (y : Trail). played h y (after_take h d y)) made)

  module _ (x : State) where
    -- before the first call
    abbrev pub start : Trail
    start = record { state = x; reply = silent; count = 0 }

    pub recovered_declined : {z : Trail} (n : ℕ) (values : List ℕ) → first_of (recovery_rows h x d) ≡ declined n values → z ≡ record { state = x; reply = no n values; count = 0 } → z ≡ recovered h x d
    unfolding recovered calls_of begun played
    recovered_declined n values e q = rw e q

    pub recovered_passed : {z : Trail} → first_of (recovery_rows h x d) ≡ pass → z ≡ played h start (from_take h d start) → z ≡ recovered h x d
    unfolding recovered calls_of begun
    recovered_passed e q = rw e q
