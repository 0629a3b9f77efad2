-- Condition 2: the counting rule decides a mark exactly when the absent marks cannot matter.
-- A mark D is decided exactly when every way of filling in the absent replicas' marks with 0 to N gives the same highest mark held by a
-- majority of all R, and then that mark is D; it is undecided exactly when two ways give different marks.
-- The filled-in side is stated over the list of the R marks alone. The statement comes first, then its proof; the theorem is `filling`.
-- Assumes nothing.
use mathlib.Core.Path.{◌≡◌, refl, sym, ap, ◌∙◌}
use mathlib.Core.Bool.{Bool, true, false, cond, ◌&&◌}
use mathlib.Core.Logic.{◌↔◌, ◌⊎◌, ⊎_elim}
use mathlib.Core.List.{List, [], ◌∷◌}
use Prim.Native.Nat.{ℕ, suc, ◌+◌, ◌-◌, ◌*◌, ◌%◌, ◌≤◌, ◌<◌}
use native.Mathlib.Omega.{arith}
use lib.ListN.{length, get_or, replicate, length-replicate}
use lib.Dec.{leb, ltb}
use borrow.Author.Tests.{le-leb, lt-leb, leb-true, ltb-true}
use Rattle.base.specs.Below.{bit, count, up_to}
use Rattle.base.proofs.Tests.{lt_or_le, both}
use Rattle.base.proofs.Below.{bit_le, count_le, count_sum, count_mono, count_every, count_front, up_to_length, up_to_at}
use Rattle.std.specs.Prelude.{Option, Some, None}
use Rattle.quorum.specs.Vote.{marks_of, quorum, reach, majority_mark, decided, vote_of}
use Rattle.quorum.proofs.Laws.{vote_yes}
use Rattle.quorum.proofs.Reach.{reach_zero, reach_down, reach_none, majority_above, majority_reached, majority_is}

-- ---- the statement

-- how many of the marks are at least m
unfoldable pub holding : ℕ → List ℕ → ℕ
holding m [] = 0
holding m (x ∷ xs) = cond (leb m x) 1 0 + holding m xs

-- more than half of them are
abbrev pub HeldByMajority : List ℕ → ℕ → Type 0
HeldByMajority marks m = length marks < 2 * holding m marks

-- d is held by a majority, and no higher mark is
pub record HighestHeld (marks : List ℕ) (d : ℕ) : Type 0 where
  pub held : HeldByMajority marks d
  pub no_higher : (m : ℕ) → HeldByMajority marks m → m ≤ d

-- a way of filling in: r marks, each known replica's own, and from 0 to n for each absent one
pub record Filling (known : ℕ → Bool) (mark : ℕ → ℕ) (r n : ℕ) (marks : List ℕ) : Type 0 where
  pub every : length marks ≡ r
  pub own : (i : ℕ) → i < r → known i ≡ true → get_or marks i 0 ≡ mark i
  pub within : (i : ℕ) → i < r → known i ≡ false → get_or marks i 0 ≤ n

abbrev pub EveryFillingGives : (ℕ → Bool) → (ℕ → ℕ) → ℕ → ℕ → ℕ → Type 0
EveryFillingGives known mark r n d = (marks : List ℕ) → Filling known mark r n marks → HighestHeld marks d

-- two ways of filling in that give different marks
pub record FillingsDiffer (known : ℕ → Bool) (mark : ℕ → ℕ) (r n : ℕ) : Type 0 where
  pub one : List ℕ
  pub other : List ℕ
  pub fills_one : Filling known mark r n one
  pub fills_other : Filling known mark r n other
  pub a : ℕ
  pub b : ℕ
  pub gives_a : HighestHeld one a
  pub gives_b : HighestHeld other b
  pub differ : a ≡ b → ⊥

pub record Exactly (known : ℕ → Bool) (mark : ℕ → ℕ) (r n : ℕ) : Type 0 where
  pub decided : (d : ℕ) → (vote_of known mark r ≡ Some d) ↔ EveryFillingGives known mark r n d
  pub undecided : (vote_of known mark r ≡ None) ↔ FillingsDiffer known mark r n

-- "R = 1, 3, 5 or 7", "N places (1 to 1,000)"
abbrev pub ClusterSize : ℕ → ℕ → Type 0
ClusterSize r n = ((r ≡ 1) ⊎ (r ≡ 3) ⊎ (r ≡ 5) ⊎ (r ≡ 7)) × (1 ≤ n) × (n ≤ 1000)

abbrev pub KnownWithin : (ℕ → Bool) → (ℕ → ℕ) → ℕ → ℕ → Type 0
KnownWithin known mark r n = (i : ℕ) → i < r → known i ≡ true → mark i ≤ n

abbrev pub Statement : Type 0
Statement =
    (known : ℕ → Bool) (mark : ℕ → ℕ) (r n : ℕ)
    → ClusterSize r n → KnownWithin known mark r n → Exactly known mark r n

-- ---- the filled-in side, as counts

-- how many of the first r marks are at least m: the count in which nobody is absent
abbrev full : List ℕ → ℕ → ℕ → ℕ
full marks r m = reach (λ i. true) (marks_of marks) r m

holding_full : (m : ℕ) (marks : List ℕ) → holding m marks ≡ full marks (length marks) m
unfolding holding count
holding_full m [] = refl
holding_full m (x ∷ xs) =
    ap (λ (k : ℕ). bit (leb m x) + k) (holding_full m xs)
    ∙ sym (count_front (λ i. leb m (get_or (x ∷ xs) i 0)) (length xs))

module _ (marks : List ℕ) (r : ℕ) (size : length marks ≡ r) (odd : r % 2 ≡ 1) where
  holding_is : (m : ℕ) → holding m marks ≡ full marks r m
  holding_is m = rw (← size) (holding_full m marks)

  held_count : (m : ℕ) → HeldByMajority marks m → quorum r ≤ full marks r m
  held_count m h = omega (arith, holding_is m)

  count_held : (m : ℕ) → quorum r ≤ full marks r m → HeldByMajority marks m
  count_held m h = omega (arith, holding_is m)

  highest_by : (d : ℕ) → quorum r ≤ full marks r d → full marks r (suc d) < quorum r → HighestHeld marks d
  highest_by d low top = record {
    held = count_held d low;
    no_higher = λ m h.
        ⊎_elim
        (λ w. absurd (omega (arith, held_count m h, reach_down (λ i. true) (marks_of marks) r (suc d) m w)))
        (λ w. w)
        (lt_or_le d m);
  }

  fewer_beyond : (d : ℕ) → HighestHeld marks d → full marks r (suc d) < quorum r
  fewer_beyond d h =
      ⊎_elim (λ w. w) (λ w. absurd (omega (arith, h.no_higher (suc d) (count_held (suc d) w)))) (lt_or_le (full marks r (suc d)) (quorum r))

  -- there is a highest mark held by a majority
  highest_of : (d : ℕ) × HighestHeld marks d
  highest_of = (
    majority_mark (λ i. true) (marks_of marks) r,
    record {
      held = count_held _ (majority_reached (λ i. true) (marks_of marks) r (omega (arith, count_every r)));
      no_higher = λ m h. majority_above (λ i. true) (marks_of marks) r m (omega arith) (held_count m h);
    },
  )

unique : (marks : List ℕ) (a b : ℕ) → HighestHeld marks a → HighestHeld marks b → a ≡ b
unique marks a b p q = omega (arith, p.no_higher b q.held, q.no_higher a p.held)

-- ---- what filling in changes of the counts

module _ (known : ℕ → Bool) (mark : ℕ → ℕ) (r n : ℕ) (marks : List ℕ) (fills : Filling known mark r n marks) (x : ℕ) where
  -- whoever reaches x still does
  fill_low : reach known mark r x ≤ full marks r x
  fill_low = count_mono _ _ r (λ i l. at i l (known i) refl)
    where
      at : (i : ℕ) → i < r → (b : Bool) → known i ≡ b → bit (known i && leb x (mark i)) ≤ bit (leb x (get_or marks i 0))
      at i l true e = rw (e, fills.own i l e) (omega arith)
      at i l false e = rw e (omega arith)

  -- at most all the absent are added
  fill_high : full marks r x + count known r ≤ reach known mark r x + r
  fill_high = omega (arith, count_sum (λ i. leb x (get_or marks i 0)) known (λ i. known i && leb x (mark i)) (λ i. true) r (λ i l. at i l (known i) refl), count_every r)
    where
      at : (i : ℕ) → i < r → (b : Bool) → known i ≡ b → bit (leb x (get_or marks i 0)) + bit (known i) ≤ bit (known i && leb x (mark i)) + 1
      at i l true e = rw (e, fills.own i l e) (omega arith)
      at i l false e = rw e (omega (arith, bit_le (leb x (get_or marks i 0))))

  -- none is added if all their marks are below x
  fill_none : ((i : ℕ) → i < r → known i ≡ false → get_or marks i 0 < x) → full marks r x ≤ reach known mark r x
  fill_none u = count_mono _ _ r (λ i l. at i l (known i) refl)
    where
      at : (i : ℕ) → i < r → (b : Bool) → known i ≡ b → bit (leb x (get_or marks i 0)) ≤ bit (known i && leb x (mark i))
      at i l true e = rw (e, fills.own i l e) (omega arith)
      at i l false e = rw (e, lt-leb x (get_or marks i 0) (u i l e)) (omega arith)

  -- all are added if their marks reach x
  fill_all : ((i : ℕ) → i < r → known i ≡ false → x ≤ get_or marks i 0) → reach known mark r x + r ≤ full marks r x + count known r
  fill_all u = omega (arith, count_sum (λ i. known i && leb x (mark i)) (λ i. true) (λ i. leb x (get_or marks i 0)) known r (λ i l. at i l (known i) refl), count_every r)
    where
      at : (i : ℕ) → i < r → (b : Bool) → known i ≡ b → bit (known i && leb x (mark i)) + 1 ≤ bit (leb x (get_or marks i 0)) + bit (known i)
      at i l true e = rw (e, fills.own i l e) (omega arith)
      at i l false e = rw (e, le-leb x (get_or marks i 0) (u i l e)) (omega arith)

-- ---- the absent all at one mark v

module _ (known : ℕ → Bool) (mark : ℕ → ℕ) (r : ℕ) where
  unfoldable evenly : ℕ → List ℕ
  evenly v = up_to (λ i. cond (known i) (mark i) v) (replicate r 0) r

  evenly_at : (v i : ℕ) → i < r → get_or (evenly v) i 0 ≡ cond (known i) (mark i) v
  unfolding evenly
  evenly_at v i l = up_to_at (λ i. cond (known i) (mark i) v) (replicate r 0) r i 0 l (omega (arith, length-replicate {A = ℕ} r 0))

  evenly_absent : (v i : ℕ) → i < r → known i ≡ false → get_or (evenly v) i 0 ≡ v
  evenly_absent v i l e = evenly_at v i l ∙ rw e

  evenly_fills : (n v : ℕ) → v ≤ n → Filling known mark r n (evenly v)
  unfolding evenly
  evenly_fills n v le = record {
    every = up_to_length (λ i. cond (known i) (mark i) v) (replicate r 0) r ∙ length-replicate r 0;
    own = λ i l e. evenly_at v i l ∙ rw e;
    within = λ i l e. omega (arith, evenly_absent v i l e);
  }

-- ---- the theorem

-- what a vote for d has counted
abbrev Counted : (ℕ → Bool) → (ℕ → ℕ) → ℕ → ℕ → Type 0
Counted known mark r d =
    (quorum r ≤ count known r)
    × (reach known mark r (suc (majority_mark known mark r)) + (r - count known r) < quorum r)
    × (majority_mark known mark r ≡ d)

vote_counted : (known : ℕ → Bool) (mark : ℕ → ℕ) (r d : ℕ) → vote_of known mark r ≡ Some d → Counted known mark r d
unfolding vote_of decided
vote_counted known mark r d e = go (decided known mark r) refl e
  where
    go : (b : Bool) → decided known mark r ≡ b → cond b (Some (majority_mark known mark r)) None ≡ Some d → Counted known mark r d
    go true x z =
        let more = reach known mark r (suc (majority_mark known mark r)) + (r - count known r) in
        let t = both (leb (quorum r) (count known r)) (ltb more (quorum r)) x in
        (leb-true _ _ t.0, ltb-true _ _ t.1, cc)
    go false x z = absurd (let w : ◌≡◌ {A = ℕ} 0 1 = cc in omega arith)

module _ (known : ℕ → Bool) (mark : ℕ → ℕ) (r n : ℕ) (odd : r % 2 ≡ 1) (one : 1 ≤ n) (low : KnownWithin known mark r n) where
  decided_fills : (d : ℕ) → vote_of known mark r ≡ Some d → EveryFillingGives known mark r n d
  decided_fills d e marks fills =
      let v = vote_counted known mark r d e in
      let m : majority_mark known mark r ≡ d = v.2 in
      let reached : quorum r ≤ reach known mark r d = rw m at (majority_reached known mark r v.0) in
      let beyond : reach known mark r (suc d) + (r - count known r) < quorum r = rw m at v.1 in
      highest_by marks r fills.every odd d
      (omega (arith, fill_low known mark r n marks fills d))
      (omega (arith, fill_high known mark r n marks fills (suc d), count_le known r))

  -- the vote is d if Q reach d, and too few more could go beyond
  settled : (d : ℕ) → quorum r ≤ count known r → quorum r ≤ reach known mark r d → reach known mark r (suc d) + (r - count known r) < quorum r → vote_of known mark r ≡ Some d
  settled d enough reached beyond =
      let m = majority_is known mark r d (omega arith) reached (omega arith) in
      sym (vote_yes known mark r (quorum r) (count known r) refl refl d (reach known mark r (suc d)) (sym m) refl enough beyond)

  abbrev zeros : List ℕ
  zeros = evenly known mark r 0

  abbrev tops : List ℕ
  tops = evenly known mark r n

  fills_zeros : Filling known mark r n zeros
  fills_zeros = evenly_fills known mark r n 0 (omega arith)

  fills_tops : Filling known mark r n tops
  fills_tops = evenly_fills known mark r n n (omega arith)

  -- it is enough that the lowest and the highest marks agree
  ends_decide : (d : ℕ) → HighestHeld zeros d → HighestHeld tops d → vote_of known mark r ≡ Some d
  ends_decide d z t =
      let held : quorum r ≤ full zeros r d = held_count zeros r fills_zeros.every odd d z.held in
      let reached : 1 ≤ d → quorum r ≤ reach known mark r d = λ p. omega (arith, fill_none known mark r n zeros fills_zeros d (λ i l e. omega (arith, evenly_absent known mark r 0 i l e))) in
      let beyond : full tops r (suc d) < quorum r = fewer_beyond tops r fills_tops.every odd d t in
      ⊎_elim
      (λ w.
      let added = fill_all known mark r n tops fills_tops (suc d) (λ i l e. omega (arith, evenly_absent known mark r n i l e)) in
      let enough : quorum r ≤ count known r = omega (arith, count_le known r) in
      settled d enough
      (⊎_elim (λ p. reached p) (λ p. let e : d ≡ 0 = omega arith in rw (e, reach_zero known mark r) enough) (lt_or_le 0 d))
      (omega (arith, count_le known r)))
      (λ w.
      let here = reached (omega arith) in
      let none = reach_none known mark r (suc d) (λ i l e. omega (arith, low i l e)) in
      let enough : quorum r ≤ count known r = omega (arith, reach_zero known mark r, reach_down known mark r 0 d (omega arith)) in
      settled d enough here (omega arith))
      (lt_or_le d n)

  undecided_differ : vote_of known mark r ≡ None → FillingsDiffer known mark r n
  undecided_differ e =
      let z = highest_of zeros r fills_zeros.every odd in
      let t = highest_of tops r fills_tops.every odd in
      record {
        one = zeros;
        other = tops;
        fills_one = fills_zeros;
        fills_other = fills_tops;
        a = z.0;
        b = t.0;
        gives_a = z.1;
        gives_b = t.1;
        differ = λ q. let w : ◌≡◌ {A = ℕ} 0 1 = cc (ends_decide t.0 (rw q at z.1) t.1) in omega arith;
      }

  differ_undecided : FillingsDiffer known mark r n → vote_of known mark r ≡ None
  differ_undecided f = go (vote_of known mark r) refl
    where
      go : (v : Option ℕ) → vote_of known mark r ≡ v → v ≡ None
      go None e = refl
      go (Some d) e =
          absurd
          (f.differ
          (unique f.one f.a d f.gives_a (decided_fills d e f.one f.fills_one)
          ∙ unique f.other d f.b (decided_fills d e f.other f.fills_other) f.gives_b))

  -- for every odd R and every N from 1
  pub exactly : Exactly known mark r n
  exactly = record {
    decided = λ d. (
      decided_fills d,
      λ all. ends_decide d (all zeros fills_zeros) (all tops fills_tops),
    );
    undecided = (undecided_differ, differ_undecided);
  }

pub filling : Statement
filling known mark r n size low = exactly known mark r n odd size.1 low
  where
    odd : r % 2 ≡ 1
    odd = ⊎_elim (λ e. omega arith) (⊎_elim (λ e. omega arith) (⊎_elim (λ e. omega arith) (λ e. omega arith))) size.0
