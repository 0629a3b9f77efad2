-- No false negatives (document 004, Waltz Internals, "Optimistic Locking": "If the estimate is smaller than the transaction's high-water mark, the
-- transaction is safe. There will be no false-negative."; by document 02, No. 2, an equal one is safe too): after any list of granted issues on a table
-- filled with a starting mark, a lock's estimate is at least the last ID that wrote it and at least the starting mark, whatever other locks share its
-- places. So a request is granted only to a client whose mark is at or above every ID that wrote one of its locks.
-- The statement comes first, then the steps, one issue each, then the theorem `no_false_negatives`.
-- Assumes nothing.
use mathlib.Core.Path.{◌≡◌, ap, ◌∙◌}
use mathlib.Core.Logic.{◌⊎◌, inl, inr, ⊎_elim}
use mathlib.Core.List.Memᴰ
use mathlib.Core.List.{List, [], ◌∷◌, Memᴰ}
use Prim.Native.Nat.{ℕ, zero, suc, ◌≤◌, ◌<◌}
use native.Mathlib.Omega.{arith}
use lib.ListN.{length, get_or, set, replicate, length-set, length-replicate, get_or-replicate}
use lib.Seq.{get_or-set_same}
use Rattle.base.proofs.Tests.{lt_or_le}
use Rattle.std.specs.Prelude.{None}
use Rattle.locks.specs.Locks.{place_of, estimate_of, marked_at, marked_all, first_held}
use Rattle.locks.proofs.Laws.{length_marked, length_marked_all}
use Rattle.locks.proofs.Conflicts.{granted_exactly}

-- ---- the statement

-- a granted issue: its locks, and the ID that it was given
pub record Granted : Type 0 where
  pub locks : List ℕ
  pub id : ℕ

-- a table after granted issues, one after another
unfoldable pub after_all : List ℕ → List Granted → List ℕ
after_all table [] = table
after_all table (g ∷ gs) = after_all (marked_all table g.locks g.id) gs

-- their IDs rise, and the first is above m
abbrev pub Rising : ℕ → List Granted → Type 0
Rising m [] = Unit {0}
Rising m (g ∷ gs) = (m < g.id) × Rising g.id gs

-- one of them wrote id for the lock k
pub record Wrote (gs : List Granted) (k id : ℕ) : Type 0 where
  pub issue : Granted
  pub listed : Memᴰ issue gs
  pub locked : Memᴰ k issue.locks
  pub given : issue.id ≡ id

-- what a table says after granted issues: no estimate is below the starting mark, nor below any ID that wrote its lock, so not below the
-- last; and a request is granted only if its client's mark is at or above every ID that wrote one of its locks
pub record Sound (table : List ℕ) (start : ℕ) (gs : List Granted) : Type 0 where
  pub from_start : (k : ℕ) → start ≤ estimate_of table k
  pub from_writers : (k id : ℕ) → Wrote gs k id → id ≤ estimate_of table k
  pub granted_knows : (ks : List ℕ) (client : ℕ) → first_held table ks client ≡ None → (k id : ℕ) → Memᴰ k ks → Wrote gs k id → id ≤ client

abbrev pub Statement : Type 0
Statement = (start : ℕ) (gs : List Granted) → Rising start gs → Sound (after_all (replicate 1024 start) gs) start gs

-- ---- what writes leave of a table's entries: each stays, or becomes the ID

-- so a bound of both bounds the entry after them
abbrev Between : List ℕ → ℕ → List ℕ → Type 0
Between t id u = (j b : ℕ) → (b ≤ get_or t j 0 → b ≤ id → b ≤ get_or u j 0) × (get_or t j 0 ≤ b → id ≤ b → get_or u j 0 ≤ b)

set_between : (t : List ℕ) (i id : ℕ) → Between t id (set t i id)
set_between [] i id j b = (λ p q. p, λ p q. p)
set_between (x ∷ t) zero id zero b = (λ p q. q, λ p q. q)
set_between (x ∷ t) zero id (suc j) b = (λ p q. p, λ p q. p)
set_between (x ∷ t) (suc i) id zero b = (λ p q. p, λ p q. p)
set_between (x ∷ t) (suc i) id (suc j) b = set_between t i id j b

between_trans : (id : ℕ) (t u v : List ℕ) → Between t id u → Between u id v → Between t id v
between_trans id t u v p q j b = (λ x y. (q j b).0 ((p j b).0 x y) y, λ x y. (q j b).1 ((p j b).1 x y) y)

marked_between : (t : List ℕ) (k id : ℕ) → Between t id (marked_at t k id)
unfolding marked_at
marked_between t k id =
    let u = set t (place_of k 0) id in
    let v = set u (place_of k 1) id in
    let w = set v (place_of k 2) id in
    between_trans id t u w (set_between t (place_of k 0) id)
    (between_trans id u v w (set_between u (place_of k 1) id) (set_between v (place_of k 2) id))

all_between : (t ks : List ℕ) (id : ℕ) → Between t id (marked_all t ks id)
unfolding marked_all
all_between t [] id j b = (λ p q. p, λ p q. p)
all_between t (k ∷ ks) id j b =
    between_trans id t (marked_at t k id) (marked_all (marked_at t k id) ks id) (marked_between t k id) (all_between (marked_at t k id) ks id) j b

-- an entry that is the ID stays so
stays : (t u : List ℕ) (id j : ℕ) → Between t id u → get_or t j 0 ≡ id → get_or u j 0 ≡ id
stays t u id j b e =
    let low : id ≤ get_or u j 0 = (b j id).0 (omega arith) (omega arith) in
    let top : get_or u j 0 ≤ id = (b j id).1 (omega arith) (omega arith) in
    omega arith

-- ---- an estimate is the least of its three entries

module _ (t : List ℕ) (k : ℕ) where
  estimate_low : (estimate_of t k ≤ get_or t (place_of k 0) 0) × (estimate_of t k ≤ get_or t (place_of k 1) 0) × (estimate_of t k ≤ get_or t (place_of k 2) 0)
  unfolding estimate_of
  estimate_low = (omega arith, omega arith, omega arith)

  estimate_ge : (b : ℕ) → b ≤ get_or t (place_of k 0) 0 → b ≤ get_or t (place_of k 1) 0 → b ≤ get_or t (place_of k 2) 0 → b ≤ estimate_of t k
  unfolding estimate_of
  estimate_ge b p q r = omega arith

  estimate_le : (b : ℕ) → estimate_of t k ≤ b → (get_or t (place_of k 0) 0 ≤ b) ⊎ (get_or t (place_of k 1) 0 ≤ b) ⊎ (get_or t (place_of k 2) 0 ≤ b)
  unfolding estimate_of
  estimate_le b l =
      ⊎_elim (λ p. ⊎_elim (λ q. inr (inr (omega arith))) (λ q. inr (inl q)) (lt_or_le b (get_or t (place_of k 1) 0))) inl (lt_or_le b (get_or t (place_of k 0) 0))

  estimate_same : (e : ℕ) → get_or t (place_of k 0) 0 ≡ e → get_or t (place_of k 1) 0 ≡ e → get_or t (place_of k 2) 0 ≡ e → estimate_of t k ≡ e
  unfolding estimate_of
  estimate_same e p q r = rw (p, q, r) (omega arith)

-- ---- the steps

pub place_below : (k j : ℕ) → place_of k j < 1024
unfolding place_of
place_below k j = omega arith

-- a filled table gives the starting mark
pub starts : (start k : ℕ) → estimate_of (replicate 1024 start) k ≡ start
starts start k =
    let e : (j : ℕ) → get_or (replicate 1024 start) (place_of k j) 0 ≡ start = λ j. get_or-replicate 1024 (place_of k j) start 0 (place_below k j) in
    estimate_same (replicate 1024 start) k start (e 0) (e 1) (e 2)

module _ (t ks : List ℕ) (id k : ℕ) (l : estimate_of t k ≤ id) where
  -- an issue with a higher ID never lowers an estimate
  pub rises : estimate_of t k ≤ estimate_of (marked_all t ks id) k
  rises =
      let low = estimate_low t k in
      let b = all_between t ks id in
      estimate_ge (marked_all t ks id) k (estimate_of t k) ((b _ _).0 low.0 l) ((b _ _).0 low.1 l) ((b _ _).0 low.2 l)

  -- nor raises one above its ID
  pub tops : estimate_of (marked_all t ks id) k ≤ id
  tops =
      let low = estimate_low (marked_all t ks id) k in
      let top : (j : ℕ) → get_or t j 0 ≤ id → get_or (marked_all t ks id) j 0 ≤ id = λ j p. (all_between t ks id j id).1 p (omega arith) in
      ⊎_elim (λ p. omega (arith, top _ p)) (⊎_elim (λ p. omega (arith, top _ p)) (λ p. omega (arith, top _ p))) (estimate_le t k id l)

marks_one : (t : List ℕ) (k id : ℕ) → length t ≡ 1024 → estimate_of (marked_at t k id) k ≡ id
unfolding marked_at
marks_one t k id l =
    let u = set t (place_of k 0) id in
    let v = set u (place_of k 1) id in
    let w = set v (place_of k 2) id in
    let a : get_or u (place_of k 0) 0 ≡ id = get_or-set_same t (place_of k 0) id 0 (omega (arith, place_below k 0)) in
    let b : get_or v (place_of k 1) 0 ≡ id = get_or-set_same u (place_of k 1) id 0 (simp length-set (omega (arith, place_below k 1))) in
    let c : get_or w (place_of k 2) 0 ≡ id = get_or-set_same v (place_of k 2) id 0 (simp length-set (omega (arith, place_below k 2))) in
    let last = set_between v (place_of k 2) id in
    estimate_same w k id (stays v w id (place_of k 0) last (stays u v id (place_of k 0) (set_between u (place_of k 1) id) a)) (stays v w id (place_of k 1) last b) c

-- after an issue the estimate of each of its locks is its ID
pub enters : (t ks : List ℕ) (id k : ℕ) → length t ≡ 1024 → Memᴰ k ks → estimate_of (marked_all t ks id) k ≡ id
unfolding marked_all
enters t [] id k l m = absurd (Memᴰ.not-nil m)
enters t (h ∷ ks) id k l m =
    let u = marked_at t h id in
    ⊎_elim
    (λ (e : k ≡ h).
    let one : estimate_of u k ≡ id = rw e (marks_one t h id l) in
    omega (arith, rises u ks id k (omega arith), tops u ks id k (omega arith)))
    (λ m. enters u ks id k (length_marked t h id ∙ l) m)
    (Memᴰ.cases_cons m)

-- ---- the theorem

-- over any table of estimates up to m, with IDs that rise above m
after : (t : List ℕ) (m : ℕ) (gs : List Granted) → length t ≡ 1024 → ((k : ℕ) → estimate_of t k ≤ m) → Rising m gs
    → (k : ℕ) → (estimate_of t k ≤ estimate_of (after_all t gs) k) × ((id : ℕ) → Wrote gs k id → id ≤ estimate_of (after_all t gs) k)
unfolding after_all
after t m [] l top up k = (omega arith, λ id w. absurd (Memᴰ.not-nil w.listed))
after t m (g ∷ gs) l top up k =
    let u = marked_all t g.locks g.id in
    let top' : (h : ℕ) → estimate_of u h ≤ g.id = λ h. tops t g.locks g.id h (omega (arith, top h, up.0)) in
    let rest = after u g.id gs (length_marked_all t g.locks g.id ∙ l) top' up.1 k in
    let kept : estimate_of t k ≤ estimate_of u k = rises t g.locks g.id k (omega (arith, top k, up.0)) in (
      omega (arith, rest.0),
      λ id w.
          ⊎_elim
          (λ (e : w.issue ≡ g).
          let here = enters t g.locks g.id k l (rw e at w.locked) in
          omega (arith, rest.0, w.given, ap (λ (x : Granted). x.id) e))
          (λ more. rest.1 id (record { issue = w.issue; listed = more; locked = w.locked; given = w.given }))
          (Memᴰ.cases_cons w.listed),
    )

pub no_false_negatives : Statement
no_false_negatives start gs up =
    let t = replicate 1024 start in
    let all = after t start gs (length-replicate 1024 start) (λ k. omega (arith, starts start k)) up in
    record {
      from_start = λ k. omega (arith, starts start k, (all k).0);
      from_writers = λ k id w. (all k).1 id w;
      granted_knows = λ ks client f k id m w. omega (arith, (all k).1 id w, (granted_exactly (after_all t gs) ks client).0 f k m);
    }
