-- A recovery ends: in any state that is handed in, under all fates, it makes at most 2 + R + R × N calls (`bounded`). One take, one prepare for each listed
-- replica, of which there are at most R, at most N copies for each, and one open.
-- Assumes nothing.
use mathlib.Core.Path.{◌≡◌, refl}
use mathlib.Core.Bool.{Bool, true, false, cond, ◌&&◌}
use mathlib.Core.List.{List, [], ◌∷◌, ◌++◌}
use Prim.Native.Nat.{ℕ, zero, suc, ◌+◌, ◌*◌, ◌≤◌, ◌<◌}
use native.Mathlib.Nat.{mul-le-mul_right, mul-le-mul_left}
use native.Mathlib.Omega.{arith}
use lib.ListN.{length, length-append}
use lib.Dec.{ltb}
use Rattle.base.proofs.Below.{count_le}
use Rattle.cluster.specs.declared.Shape.{Shape}
use Rattle.cluster.specs.declared.Server.{Server}
use Rattle.cluster.specs.State.{State, mark_at, active_at, votes_at}
use Rattle.cluster.specs.Refusals.{Verdict, pass, declined, first_of}
use Rattle.cluster.proofs.Marks.{marks_fit}
use Rattle.recovery.specs.Recovery.{Recovery, Trail, one, played, preparing, copying, opening, is_ok, server_of, prepares, highest_known, first_at, copies, lacks, copies_to, all_copies, catching_up, after_take, from_take, contains, repeats, not_below, recovery_rows, begun, unless_declined, calls_of, recovered}
use Rattle.recovery.specs.Arrival.{how_many, taken}
use Rattle.recovery.proofs.Counts.{played_count}
use Rattle.recovery.proofs.Steady.{Steady, steady_take, steady_prepare}
use Rattle.recovery.proofs.Own.{Admitted, own}
use Rattle.recovery.proofs.Listed.{first_below}
use Rattle.recovery.proofs.Highest.{many_listed}
use Rattle.recovery.proofs.Played.{prepares_length}

abbrev pub Bounded : Type 0
Bounded = (h : Shape) (x : State) (d : Recovery) → (recovered h x d).count ≤ 2 + h.replicas + h.replicas * h.places

-- ---- the list

every : (is : List ℕ) → how_many (λ i. true) is ≡ length is
unfolding how_many
every [] = refl
every (i ∷ is) = omega (arith, every is)

-- a list without repeats whose numbers are all below R has at most R of them
pub listed_length : (r : ℕ) (is : List ℕ) → repeats is ≡ false → not_below r is ≡ false → length is ≤ r
listed_length r is once below =
    omega (
      arith,
      every is,
      many_listed (λ i. true) (λ i. true) r is once below (λ i e k. refl),
      count_le (λ i. true && contains is i) r,
    )

-- ---- the marks

-- every mark that a steady cluster's server has recorded is at most N
pub highest_le : (h : Shape) (v : Server) (is : List ℕ) → not_below h.replicas is ≡ false → ((i : ℕ) → i < h.replicas → mark_at v i ≤ h.places)
    → highest_known v is ≤ h.places
unfolding highest_known
highest_le h v [] below f = omega arith
highest_le h v (i ∷ is) below f =
    let l = first_below h.replicas i is below in
    omega (arith, highest_le h v is l.1 f, at_most (votes_at v i) (f i l.0))
  where
    at_most : (b : Bool) → mark_at v i ≤ h.places → cond b (mark_at v i) 0 ≤ h.places
    at_most true q = q
    at_most false q = omega arith

pub steady_prepares : (h : Shape) (d : Recovery) (is : List ℕ) (t : Trail) → Steady h t.state → Steady h (played h t (prepares h d t is)).state
unfolding played prepares
steady_prepares h d [] t s = s
steady_prepares h d (i ∷ is) t s = steady_prepares h d is (one h t (preparing d t i)) (steady_prepare h d t i s)

-- ---- the copies

module _ (h : Shape) (d : Recovery) (a m : ℕ) where
  copies_most : (b n : ℕ) (t : Trail) → length (copies h d a m b n t) ≤ n
  unfolding copies
  copies_most b zero t = omega arith
  copies_most b (suc n) t =
      let u = one h t (copying d t a b) in go (ltb (mark_at (server_of d t) b) m) (is_ok u.reply) (copies_most b n u)
    where
      go : (below fine : Bool) → let u = one h t (copying d t a b) in length (copies h d a m b n u) ≤ n
          → length (cond below (copying d t a b ∷ cond fine (copies h d a m b n u) []) []) ≤ suc n
      go true true l = omega (arith, l)
      go true false l = omega arith
      go false fine l = omega arith

  pub to_most : (b : ℕ) (t : Trail) → length (copies_to h d a m b t) ≤ m
  to_most b t = go (active_at (server_of d t) b) (copies_most b (lacks (server_of d t) m b) t)
    where
      go : (k : Bool) → length (copies h d a m b (lacks (server_of d t) m b) t) ≤ lacks (server_of d t) m b
          → length (cond k (copies h d a m b (lacks (server_of d t) m b) t) []) ≤ m
      go true l = omega (arith, l)
      go false l = omega arith

  pub all_most : (bs : List ℕ) (t : Trail) → length (all_copies h d a m t bs) ≤ length bs * m
  unfolding all_copies
  all_most [] t = omega arith
  all_most (b ∷ bs) t =
      let ps = copies_to h d a m b t in
      let q = all_copies h d a m (played h t ps) bs in
      omega (arith, length-append ps q, to_most b t, all_most bs (played h t ps))

-- ---- all calls

module _ (h : Shape) (x : State) (d : Recovery) (A : Admitted h x d) where
  behind_take : (t : Trail) → Steady h t.state → length (after_take h d t) ≤ 1 + h.replicas + h.replicas * h.places
  unfolding after_take
  behind_take t s =
      let ps = prepares h d t d.listed in
      let u = played h t ps in
      let v = server_of d u in
      let m = highest_known v d.listed in
      let cs = catching_up h d u in
      let few = listed_length h.replicas d.listed A.once A.below in
      let fits = (marks_fit h u.state.records d.server A.server (steady_prepares h d d.listed t s).fits).marks in
      let high = highest_le h v d.listed A.below fits in
      let most = all_most h d (first_at v m d.listed) m d.listed u in
      omega (
        arith,
        length-append ps (cs ++ (opening d (played h u cs) ∷ [])),
        length-append cs (opening d (played h u cs) ∷ []),
        prepares_length h d t d.listed,
        few,
        most,
        mul-le-mul_right {m = length d.listed} {n = h.replicas} m few,
        mul-le-mul_left {m = m} {n = h.places} h.replicas high,
      )

  from_take_lem : length (from_take h d (begun h x d)) ≤ 2 + h.replicas + h.replicas * h.places
  unfolding from_take begun
  from_take_lem = go (is_ok (taken h x d).reply) (behind_take (taken h x d) (steady_take h d (begun h x d) A.steady))
    where
      go : (b : Bool) → length (after_take h d (taken h x d)) ≤ 1 + h.replicas + h.replicas * h.places
          → suc (length (cond b (after_take h d (taken h x d)) [])) ≤ 2 + h.replicas + h.replicas * h.places
      go true l = omega (arith, l)
      go false l = omega arith

pub bounded : Bounded
unfolding recovered calls_of begun
bounded h x d = go (first_of (recovery_rows h x d)) refl
  where
    go : (w : Verdict) → first_of (recovery_rows h x d) ≡ w
        → (played h (begun h x d) (unless_declined w (from_take h d (begun h x d)))).count ≤ 2 + h.replicas + h.replicas * h.places
    go pass e = omega (arith, played_count h (begun h x d) (from_take h d (begun h x d)), from_take_lem h x d (own h x d e))
    go (declined n values) e = omega (arith, played_count h (begun h x d) [])
