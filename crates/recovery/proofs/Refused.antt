-- Condition 1 for a recovery. Document 02, No. 9: "The driver itself declines only by 1 to 5 and 29; another number is its last call's."
--   It makes no call exactly if a row of its own list holds; then the first such row gives its reply, and nothing is changed. The list follows the papers' order.
--   Otherwise its take and its open meet none of 1 to 5, and the open no 22: a take is declined by 6 or 21 alone, an open by 6, 8 or 9. So the number tells who
--   declined.
-- In any state with four servers, as the type says. The statement comes first; the theorem is `refused`.
-- Assumes nothing.
use mathlib.Core.Path.{◌≡◌, refl, sym, ap, ◌∙◌, subst⁻¹}
use mathlib.Core.Bool.{Bool, true, false, not, cond, ◌&&◌, false≢true}
use mathlib.Core.Logic.{◌↔◌, ◌⊎◌, inl, inr, ⊎_elim}
use mathlib.Core.List.{List, [], ◌∷◌, map}
use Prim.Native.Nat.{ℕ, ◌+◌, ◌<◌}
use native.Mathlib.Omega.{arith}
use lib.ListN.{length}
use lib.Dec.{eqb}
use borrow.Author.Tests.{eqb-true, le-ltb, eq-eqb}
use Rattle.fate.specs.declared.Fate.{Fate}
use Rattle.fate.specs.declared.Fate.TheVariants.{Answered}
use Rattle.cluster.specs.declared.Shape.{Shape}
use Rattle.cluster.specs.State.{State, active_at}
use Rattle.cluster.specs.Replies.{ok, no}
use Rattle.cluster.specs.Refusals.{Input, Row, row, order, is_cut, answered, undecided, vote_mark, too_few_clean, session_at_top, session_differs, rows_of, Verdict, pass, declined, first_of}
use Rattle.cluster.specs.Effects.{take_effect}
use Rattle.cluster.specs.Step.{effect, unless, step}
use Rattle.cluster.proofs.Rows.{passed}
use Rattle.cluster.proofs.Numbers.{mentions, other_number, ok_passes}
use Rattle.cluster.proofs.Reading.{is_answered_lem}
use Rattle.cluster.proofs.Declines.{row_at, First, NoneHolds, DeclinedBy, follows, none_of, first_of_lem, first_or_none, effect_never_no}
use Rattle.recovery.specs.Recovery.{Recovery, Trail, fate_at, played, taking, opening, is_ok, server_of, prepares, highest_known, first_at, catching_up, recovery_rows, begun, calls_of, recovered}
use Rattle.recovery.specs.Arrival.{taken, prepared}
use Rattle.recovery.proofs.Counts.{played_more}
use Rattle.recovery.proofs.Own.{Admitted, own, take_rows}
use Rattle.recovery.proofs.Underway.{Underway, taken_underway, taken_none, taken_entries}
use Rattle.recovery.proofs.Staying.{underway_prepares, underway_all}
use Rattle.recovery.proofs.Turns.{ok_values, answered_is, unseen}
use Rattle.recovery.proofs.Arrives.{caught, begins, ends, first_call}

-- ---- the statement

pub record Refused (h : Shape) (x : State) (d : Recovery) : Type 0 where
  -- "Checked in this order"
  pub ordered : follows (map (λ w. w.number) (recovery_rows h x d)) order ≡ true
  -- it makes no call and replies no exactly if the first row of its own list that holds has that number
  pub exactly : (n : ℕ) (values : List ℕ)
      → (((recovered h x d).reply ≡ no n values) × ((recovered h x d).count ≡ 0)) ↔ DeclinedBy (recovery_rows h x d) n values
  -- where none holds, it makes a call
  pub otherwise : NoneHolds (recovery_rows h x d) → 0 < (recovered h x d).count
  -- without a call nothing is changed
  pub unchanged : (recovered h x d).count ≡ 0 → (recovered h x d).state ≡ x
  -- "another number is its last call's"
  pub by_take : (recovered h x d).count ≡ 1 → (n : ℕ) (values : List ℕ) → (recovered h x d).reply ≡ no n values → (n ≡ 6) ⊎ (n ≡ 21)
  pub by_open : 1 < (recovered h x d).count → (n : ℕ) (values : List ℕ) → (recovered h x d).reply ≡ no n values → (n ≡ 6) ⊎ (n ≡ 8) ⊎ (n ≡ 9)

abbrev pub Statement : Type 0
Statement = (h : Shape) (x : State) (d : Recovery) → length x.records.servers ≡ 4 → Refused h x d

-- ---- its own list

module _ (h : Shape) (x : State) (d : Recovery) where
  abbrev ws : List Row
  ws = recovery_rows h x d

  -- what it leaves where it is declined
  pub own_reply : (n : ℕ) (values : List ℕ) → first_of ws ≡ declined n values → recovered h x d ≡ record { state = x; reply = no n values; count = 0 }
  unfolding recovered calls_of begun played
  own_reply n values e = rw e

  by_first : (i : ℕ) → First ws i → recovered h x d ≡ record { state = x; reply = no (row_at ws i).number (row_at ws i).values; count = 0 }
  by_first i f = own_reply (row_at ws i).number (row_at ws i).values (first_of_lem ws i f)

  -- one that isn't makes a call
  makes_one : NoneHolds ws → (recovered h x d).count ≡ 0 → ⊥
  makes_one e q = omega (arith, q, first_call h x d (none_of ws e))

  declined_by_lem : (n : ℕ) (values : List ℕ) → (recovered h x d).reply ≡ no n values → (recovered h x d).count ≡ 0 → DeclinedBy ws n values
  declined_by_lem n values r z = ⊎_elim found (λ e. absurd (makes_one e z)) (first_or_none ws)
    where
      found : (i : ℕ) × First ws i → DeclinedBy ws n values
      found (i, f) =
          let same : no (row_at ws i).number (row_at ws i).values ≡ no n values = sym (ap (λ (u : Trail). u.reply) (by_first i f)) ∙ r in
          record { at = i; first = f; same_number = cc; same_values = cc }

  declines : (n : ℕ) (values : List ℕ) → DeclinedBy ws n values → ((recovered h x d).reply ≡ no n values) × ((recovered h x d).count ≡ 0)
  declines n values g =
      let q = by_first g.at g.first in
      (ap (λ (u : Trail). u.reply) q ∙ rw (g.same_number, g.same_values), ap (λ (u : Trail). u.count) q)

  kept : (recovered h x d).count ≡ 0 → (recovered h x d).state ≡ x
  kept z = ⊎_elim (λ (i, f). ap (λ (u : Trail). u.state) (by_first i f)) (λ e. absurd (makes_one e z)) (first_or_none ws)

-- ---- a call whose list comes to a few rows replies with one of their numbers

one_of : (h : Shape) (x : State) (p : Input) (ws : List Row) (n : ℕ) (values : List ℕ) → first_of (rows_of h x p) ≡ first_of ws → (step h x p).reply ≡ no n values
    → mentions n ws ≡ true
unfolding step
one_of h x p ws n values e r = go (mentions n ws) refl
  where
    e' : (unless (first_of ws) x (effect h x p p.call)).reply ≡ no n values
    e' = ap (λ (w : Verdict). (unless w x (effect h x p p.call)).reply) (sym e) ∙ r

    go : (b : Bool) → mentions n ws ≡ b → b ≡ true
    go true q = refl
    go false q = absurd (effect_never_no h x p n values (other_number ws x (effect h x p p.call) n values q e'))

-- ---- its take and its open

-- one of two numbers, or of three
two : (a b n : ℕ) (v w : Bool) → mentions n (row a v ∷ row b w ∷ []) ≡ true → (n ≡ a) ⊎ (n ≡ b)
unfolding mentions
two a b n v w e = go (eqb a n) refl e
  where
    last : (c : Bool) → eqb b n ≡ c → cond c true false ≡ true → (n ≡ a) ⊎ (n ≡ b)
    last true q k = inr (sym (eqb-true b n q))
    last false q k = absurd (false≢true k)

    go : (c : Bool) → eqb a n ≡ c → cond c true (cond (eqb b n) true false) ≡ true → (n ≡ a) ⊎ (n ≡ b)
    go true q k = inl (sym (eqb-true a n q))
    go false q k = last (eqb b n) refl k

three : (a b c n : ℕ) (u v w : Bool) → mentions n (row a u ∷ row b v ∷ row c w ∷ []) ≡ true → (n ≡ a) ⊎ (n ≡ b) ⊎ (n ≡ c)
unfolding mentions
three a b c n u v w e = go (eqb a n) refl e
  where
    go : (t : Bool) → eqb a n ≡ t → cond t true (mentions n (row b v ∷ row c w ∷ [])) ≡ true → (n ≡ a) ⊎ (n ≡ b) ⊎ (n ≡ c)
    go true q k = inl (sym (eqb-true a n q))
    go false q k = ⊎_elim (λ p. inr (inl p)) (λ p. inr (inr p)) (two b c n v w k)

-- 22 is never seen: nobody but the server's own take has raised the session
pub open_rows : (h : Shape) (d : Recovery) (new : ℕ) (t : Trail) → Underway h d new t
    → let v = server_of d t in
    let f = fate_at d t.count in
    first_of (rows_of h t.state (opening d t))
    ≡ first_of (row 6 (is_cut f) ∷ row 8 (undecided h.replicas v) ∷ row 9 (too_few_clean h.replicas v (vote_mark h.replicas v)) ∷ [])
unfolding first_of
open_rows h d new t U =
    let g = t.state.records.register in
    let v = server_of d t in
    let same : session_differs g v ≡ false = ap not (eq-eqb g.session v.session (U.register ∙ sym U.session)) in
    let unseen : (answered (fate_at d t.count) && session_differs g v) ≡ false = rw same (never (answered (fate_at d t.count))) in
    rw (U.steady.inside, U.steady.fits, le-ltb 3 d.server (omega (arith, U.server)), U.phase, unseen)
  where
    never : (b : Bool) → (b && false) ≡ false
    never true = refl
    never false = refl

module _ (h : Shape) (x : State) (d : Recovery) (four : length x.records.servers ≡ 4) (admitted : first_of (recovery_rows h x d) ≡ pass) where
  abbrev t₀ : Trail
  t₀ = begun h x d

  A : Admitted h x d
  A = own h x d admitted

  abbrev f : Fate
  f = fate_at d 0

  take_list : first_of (rows_of h x (taking d t₀)) ≡ first_of (row 6 (is_cut f) ∷ row 21 (answered f && session_at_top x.records.register.session) ∷ [])
  unfolding begun
  take_list = take_rows h d t₀ A

  -- what a take with ok has passed
  record Took : Type 0 where
    passes : first_of (rows_of h x (taking d t₀)) ≡ pass
    answers : f ≡ Answered
    below_top : session_at_top x.records.register.session ≡ false

  took : (values : List ℕ) → (step h x (taking d t₀)).reply ≡ ok values → Took
  unfolding begun step unless take_effect
  took values q =
      let p = taking d t₀ in
      let through = ok_passes (rows_of h x p) x (effect h x p p.call) values q in
      let ans = answered_is f (is_answered_lem (answered f) _ values (rw through at q)) in
      record { passes = through; answers = ans; below_top = unseen ans (passed (rows_of h x p) through 21) }

  module _ (k : is_ok (taken h x d).reply ≡ true) where
    has_taken : Took
    unfolding begun
    has_taken = let q = ok_values (taken h x d).reply k in took q.0 q.1

    -- it puts the recovery on its way, with the register's entries and no replica known
    pub on_its_way : Underway h d (x.records.register.session + 1) (taken h x d)
    unfolding begun
    on_its_way = taken_underway h d t₀ A.steady four has_taken.passes has_taken.answers has_taken.below_top A.server

    pub handed_over : (server_of d (taken h x d)).entries ≡ x.records.register.entries
    unfolding begun
    handed_over = taken_entries h d t₀ A.steady four has_taken.passes has_taken.answers has_taken.below_top A.server

    pub knows_none : (i : ℕ) → active_at (server_of d (taken h x d)) i ≡ false
    unfolding begun
    knows_none = taken_none h d t₀ A.steady four has_taken.passes has_taken.answers has_taken.below_top A.server

  -- it is on its way still when it opens
  abbrev u : Trail
  u = caught h x d admitted

  pub when_opening : is_ok (taken h x d).reply ≡ true → Underway h d (x.records.register.session + 1) u
  when_opening k =
      let v = server_of d (prepared h x d) in
      let m = highest_known v d.listed in
      underway_all h d _ (first_at v m d.listed) m d.listed (prepared h x d) (underway_prepares h d _ d.listed (taken h x d) (on_its_way k))

  -- the two ways to end
  pub alone : is_ok (taken h x d).reply ≡ false → recovered h x d ≡ taken h x d
  unfolding played
  alone k = begins h x d admitted ∙ rw k

  ends_later : is_ok (taken h x d).reply ≡ true → 1 < (recovered h x d).count
  unfolding begun
  ends_later k =
      subst⁻¹ (λ (t : Trail). 1 < t.count) (ends h x d admitted k)
      (omega (arith, played_more h (taken h x d) (prepares h d (taken h x d) d.listed), played_more h (prepared h x d) (catching_up h d (prepared h x d))))

  take_number : (recovered h x d).count ≡ 1 → (n : ℕ) (values : List ℕ) → (recovered h x d).reply ≡ no n values → (n ≡ 6) ⊎ (n ≡ 21)
  unfolding begun
  take_number z n values r = go (is_ok (taken h x d).reply) refl
    where
      go : (b : Bool) → is_ok (taken h x d).reply ≡ b → (n ≡ 6) ⊎ (n ≡ 21)
      go true k = absurd (omega (arith, z, ends_later k))
      go false k =
          two 6 21 n _ _ (one_of h x (taking d t₀) (row 6 (is_cut f) ∷ row 21 (answered f && session_at_top x.records.register.session) ∷ []) n values take_list (ap (λ (t : Trail). t.reply) (sym (alone k)) ∙ r))

  open_number : 1 < (recovered h x d).count → (n : ℕ) (values : List ℕ) → (recovered h x d).reply ≡ no n values → (n ≡ 6) ⊎ (n ≡ 8) ⊎ (n ≡ 9)
  unfolding begun
  open_number z n values r = go (is_ok (taken h x d).reply) refl
    where
      go : (b : Bool) → is_ok (taken h x d).reply ≡ b → (n ≡ 6) ⊎ (n ≡ 8) ⊎ (n ≡ 9)
      go true k =
          three 6 8 9 n _ _ _
          (one_of h u.state (opening d u) (row 6 (is_cut (fate_at d u.count)) ∷ row 8 (undecided h.replicas (server_of d u)) ∷ row 9 (too_few_clean h.replicas (server_of d u) (vote_mark h.replicas (server_of d u))) ∷ []) n values
          (open_rows h d _ u (when_opening k)) (ap (λ (t : Trail). t.reply) (sym (ends h x d admitted k)) ∙ r))
      go false k = absurd (omega (arith, z, ap (λ (t : Trail). t.count) (alone k)))

-- ---- all of it

pub refused : Statement
unfolding follows
refused h x d four =
    record {
      ordered = refl;
      exactly = λ n values. (λ (r, z). declined_by_lem h x d n values r z, declines h x d n values);
      otherwise = λ e. first_call h x d (none_of (recovery_rows h x d) e);
      unchanged = kept h x d;
      by_take = λ z n values r. go (first_of (recovery_rows h x d)) refl z n values r;
      by_open = λ z n values r. later (first_of (recovery_rows h x d)) refl z n values r;
    }
  where
    go : (w : Verdict) → first_of (recovery_rows h x d) ≡ w → (recovered h x d).count ≡ 1 → (n : ℕ) (values : List ℕ) → (recovered h x d).reply ≡ no n values → (n ≡ 6) ⊎ (n ≡ 21)
    go pass e z n values r = take_number h x d four e z n values r
    go (declined k vs) e z n values r = absurd (omega (arith, z, ap (λ (t : Trail). t.count) (own_reply h x d k vs e)))

    later : (w : Verdict) → first_of (recovery_rows h x d) ≡ w → 1 < (recovered h x d).count → (n : ℕ) (values : List ℕ) → (recovered h x d).reply ≡ no n values → (n ≡ 6) ⊎ (n ≡ 8) ⊎ (n ≡ 9)
    later pass e z n values r = open_number h x d four e z n values r
    later (declined k vs) e z n values r = absurd (omega (arith, z, ap (λ (t : Trail). t.count) (own_reply h x d k vs e)))
