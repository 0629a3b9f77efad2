-- A copy with ok raises the mark of the replica that it writes by one or more (handed-in media may hold valid places behind it). So as many turns as the replica
-- lacks are enough, once a recovery is on its way: with more of them the same calls are made (`turns_enough`; of every recovery TurnsEnough.antt).
-- Assumes nothing.
use mathlib.Core.Path.{◌≡◌, refl, ap, ◌∙◌, subst, subst⁻¹}
use mathlib.Core.Bool.{Bool, true, false, cond, ◌&&◌, ◌||◌, false≢true}
use mathlib.Core.Logic.{⊎_elim}
use mathlib.Core.List.{List, [], ◌∷◌}
use Prim.Native.Nat.{ℕ, zero, suc, ◌+◌, ◌≤◌, ◌<◌}
use native.Mathlib.Omega.{arith}
use lib.ListN.{length}
use lib.Seq.{get_or-set_same}
use lib.Dec.{eqb, leb, ltb}
use borrow.Author.Tests.{le-ltb, leb-false, ltb-true, eqb-true, not-false}
use Rattle.base.proofs.Tests.{neither, lt_or_le}
use Rattle.octets.specs.Octets.{write_at}
use Rattle.fate.specs.declared.Fate.{Fate}
use Rattle.fate.specs.declared.Fate.TheVariants.{Answered, Lost, AnswerLost, Cut}
use Rattle.fate.specs.Fates.{all_of, after}
use Rattle.storage.specs.Sizes.{place_size, medium_size, place_offset}
use Rattle.storage.specs.Places.{valid_place}
use Rattle.storage.specs.Log.{place_at, mark_of}
use Rattle.storage.specs.Operations.{medium_at}
use Rattle.storage.proofs.Blocks.{place_same, place_other}
use Rattle.storage.proofs.Scan.{mark_le, log_valid}
use Rattle.storage.proofs.Marks.{mark_reaches}
use Rattle.cluster.specs.declared.Shape.{Shape}
use Rattle.cluster.specs.declared.Server.{Server}
use Rattle.cluster.specs.State.{State, put_server, mark_at}
use Rattle.cluster.specs.Replies.{Reply, ok, no, silent}
use Rattle.cluster.specs.Refusals.{Input, answered, no_slot, promise_differs, mark_differs, refuses_at, restored_source, rows_of, pass, first_of}
use Rattle.cluster.specs.Effects.{with_replica, append_effect}
use Rattle.cluster.specs.Step.{effect, unless, step}
use Rattle.cluster.proofs.Rows.{passed}
use Rattle.cluster.proofs.Numbers.{ok_passes}
use Rattle.cluster.proofs.Reading.{is_answered_lem}
use Rattle.cluster.proofs.AsStored.{media_size, place_length}
use Rattle.recovery.specs.Recovery.{Recovery, Trail, fate_at, one, copying, is_ok, server_of, copies, lacks}
use Rattle.recovery.proofs.Steady.{medium_size_lem}
use Rattle.recovery.proofs.Underway.{Underway, set_server}
use Rattle.recovery.proofs.Staying.{underway_copy}

-- a record behind the log makes it longer
one_longer : (N : ℕ) (m bs : List ℕ) → length m ≡ medium_size N → mark_of N m < N → length bs ≡ place_size → valid_place (mark_of N m + 1) bs ≡ true
    → mark_of N m + 1 ≤ mark_of N (write_at (place_offset (mark_of N m + 1)) bs m)
one_longer N m bs e l full v =
    mark_reaches N (mark_of N m + 1) m' (omega arith) (λ i k. ⊎_elim (before i) (λ q. here i (omega (arith, k, q))) (lt_or_le i (mark_of N m)))
  where
    m' : List ℕ
    m' = write_at (place_offset (mark_of N m + 1)) bs m

    before : (i : ℕ) → i < mark_of N m → valid_place (i + 1) (place_at (i + 1) m') ≡ true
    before i k =
        ap (valid_place (i + 1)) (place_other N m bs e (i + 1) (mark_of N m + 1) (omega arith) (omega arith) (omega (arith, l)) full (λ q. omega (arith, q, k)))
        ∙ log_valid N i m k

    here : (i : ℕ) → i ≡ mark_of N m → valid_place (i + 1) (place_at (i + 1) m') ≡ true
    here i q =
        subst⁻¹ (λ (j : ℕ). valid_place (j + 1) (place_at (j + 1) m') ≡ true) q
        (ap (valid_place (mark_of N m + 1)) (place_same N m bs e (mark_of N m + 1) (omega arith) (omega (arith, l)) full) ∙ v)

-- what 18 to 20 leave known of a replica
passed_mark : (N : ℕ) (recorded : ℕ) (m : List ℕ) → mark_differs N recorded m ≡ false → mark_of N m ≡ recorded
unfolding mark_differs
passed_mark N recorded m e = eqb-true (mark_of N m) recorded (not-false _ e)

pub ok_values : (r : Reply) → is_ok r ≡ true → (values : List ℕ) × (r ≡ ok values)
ok_values (ok values) e = (values, refl)
ok_values (no n values) e = absurd (false≢true e)
ok_values silent e = absurd (false≢true e)

pub answered_is : (f : Fate) → answered f ≡ true → f ≡ Answered
answered_is Answered e = refl
answered_is Lost e = absurd (false≢true e)
answered_is AnswerLost e = absurd (false≢true e)
answered_is (Cut w l) e = absurd (false≢true e)

-- a condition that would be seen does not hold
pub unseen : {f : Fate} {b : Bool} → f ≡ Answered → (answered f && b) ≡ false → b ≡ false
unseen {f} {b} e q = subst (λ (g : Fate). (answered g && b) ≡ false) e q

module _ (h : Shape) (d : Recovery) (new : ℕ) (seven : h.replicas ≤ 7) (t : Trail) (U : Underway h d new t) (a b : ℕ) where
  abbrev x : State
  x = t.state

  abbrev N : ℕ
  N = h.places

  abbrev v : Server
  v = server_of d t

  abbrev u : Trail
  u = one h t (copying d t a b)

  abbrev m : List ℕ
  m = medium_at N b x.media

  abbrev bs : List ℕ
  bs = place_at (mark_at v b + 1) (medium_at N a x.media)

  abbrev m' : List ℕ
  m' = write_at (place_offset (mark_at v b + 1)) bs m

  -- what a copy that is answered and not declined records
  recorded : fate_at d t.count ≡ Answered → first_of (rows_of h x (copying d t a b)) ≡ pass
      → no_slot m ≡ false → promise_differs v.session m ≡ false → mark_differs N (mark_at v b) m ≡ false
      → u.state.records ≡ put_server x.records d.server (with_replica v b true false (mark_of N m'))
  unfolding step unless append_effect after all_of
  recorded ans through slot promise mark = rw (through, ans, slot, promise, mark, U.phase)

  raised : (values : List ℕ) → u.reply ≡ ok values → mark_at v b < mark_at (server_of d u) b
  unfolding step unless append_effect
  raised values q =
      let p = copying d t a b in
      let through = ok_passes (rows_of h x p) x (effect h x p p.call) values q in
      let none = passed (rows_of h x p) through in
      let f = fate_at d t.count in
      let ans = answered_is f (is_answered_lem (answered f) _ values (rw through at q)) in
      let size = media_size h (length x.media) (length x.tables) U.steady.inside in
      let two = (neither (leb h.replicas a || leb h.replicas b) (eqb a b) (none 4)).0 in
      let named-a = leb-false h.replicas a (neither (leb h.replicas a) (leb h.replicas b) two).0 in
      let named = leb-false h.replicas b (neither (leb h.replicas a) (leb h.replicas b) two).1 in
      let below = ltb-true (mark_at v b) (mark_at v a) (not-false _ (none 16)) in
      let fit = (neither (restored_source v a) (refuses_at N v x.media a) (none 17)).1 in
      let source = (neither (no_slot _ || promise_differs v.session _) (mark_differs N (mark_at v a) (medium_at N a x.media)) fit).1 in
      let at_a = passed_mark N (mark_at v a) (medium_at N a x.media) source in
      let at_b = passed_mark N (mark_at v b) m (unseen ans (none 20)) in
      let reached : mark_at v a ≤ N = omega (arith, mark_le N (medium_at N a x.media), at_a) in
      let full : length bs ≡ place_size = place_length N (mark_at v b + 1) (medium_at N a x.media) (medium_size_lem h a x.media named-a size) (omega arith) (omega (arith, below, reached)) in
      let valid : valid_place (mark_at v b + 1) bs ≡ true = log_valid N (mark_at v b) (medium_at N a x.media) (omega (arith, below, at_a)) in
      let longer : mark_at v b + 1 ≤ mark_of N m' =
      subst (λ (n : ℕ). n + 1 ≤ mark_of N (write_at (place_offset (n + 1)) bs m)) at_b
      (one_longer N m bs (medium_size_lem h b x.media named size) (omega (arith, below, reached, at_b)) full (subst⁻¹ (λ (n : ℕ). valid_place (n + 1) bs ≡ true) at_b valid)) in
      let server = set_server h d new t U b true (mark_of N m') u (recorded ans through (unseen ans (none 18)) (unseen ans (none 19)) (unseen ans (none 20))) in
      let mark : mark_at (server_of d u) b ≡ mark_of N m' =
      ap (λ (w : Server). mark_at w b) server ∙ get_or-set_same v.marks b (mark_of N m') 0 (omega (arith, named, seven, U.marks)) in
      omega (arith, longer, mark)

  pub copy_raises : is_ok u.reply ≡ true → mark_at v b < mark_at (server_of d u) b
  copy_raises k = let q = ok_values u.reply k in raised q.0 q.1

-- ---- the turns

module _ (h : Shape) (d : Recovery) (new : ℕ) (seven : h.replicas ≤ 7) (a m b : ℕ) where
  pub turns_enough : (n k : ℕ) (t : Trail) → Underway h d new t → lacks (server_of d t) m b ≤ n → n ≤ k → copies h d a m b k t ≡ copies h d a m b n t
  unfolding copies
  turns_enough zero zero t U l le = refl
  turns_enough zero (suc k) t U l le = rw (le-ltb (mark_at (server_of d t) b) m (omega (arith, l)))
  turns_enough (suc n) zero t U l le = absurd (omega arith)
  turns_enough (suc n) (suc k) t U l le =
      let u = one h t (copying d t a b) in
      go (ltb (mark_at (server_of d t) b) m) (is_ok u.reply) refl
      (λ e. turns_enough n k u (underway_copy h d new t U a b) (omega (arith, l, copy_raises h d new seven t U a b e)) (omega arith))
    where
      go : (below fine : Bool) → let u = one h t (copying d t a b) in is_ok u.reply ≡ fine
          → (is_ok u.reply ≡ true → copies h d a m b k u ≡ copies h d a m b n u)
          → cond below (copying d t a b ∷ cond fine (copies h d a m b k u) []) [] ≡ cond below (copying d t a b ∷ cond fine (copies h d a m b n u) []) []
      go true true e r = ap (λ (ps : List Input). copying d t a b ∷ ps) (r e)
      go true false e r = refl
      go false fine e r = refl
