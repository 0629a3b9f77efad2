-- The cluster counts by tests, the protocol by decisions: the counts are the same. So the cluster's majority mark is decided, or acknowledged, in the
-- protocol's sense.
-- Assumes nothing.
use mathlib.Core.Path.{◌≡◌, refl, sym, ◌∙◌}
use mathlib.Core.Logic.{ite}
use mathlib.Core.Bool.{Bool, true, false, not, ◌&&◌, false≢true}
use Prim.Native.Nat.{ℕ, zero, suc, ◌+◌, ◌-◌, ◌≤◌, ◌<◌}
use native.Mathlib.Omega.{arith}
use lib.Dec.{leb, ltb}
use borrow.Author.Tests.{not-false, ltb-true, leb-true, le-leb}
use Rattle.base.specs.Below.{bit, count}
use Rattle.base.proofs.Tests.{both}
use Rattle.quorum.specs.Vote.{quorum, reach, majority_mark, decided}
use Rattle.quorum.proofs.Reach.{reach_zero, majority_above, majority_reached}
use Rattle.protocol.specs.State as protocol
use Rattle.protocol.specs.Columns.{count as tally}
use Rattle.protocol.specs.Marks.{flagged?, above?, reaches?, voter, Decided, Reached}
use Rattle.protocol.specs.Events.{Can-acknowledge}
use Rattle.protocol.proofs.Counting.{count_mono}
use Rattle.protocol.proofs.Invariant.{Inv}
use Rattle.protocol.proofs.Traces as traces
use Rattle.cluster.specs.declared.Server.{Server}
use Rattle.cluster.specs.State.{mark_at, votes_at}
use Rattle.cluster.specs.Refusals.{undecided, vote_mark}
use Rattle.guarantee.proofs.Ties.{row_of, OpeningTie}

-- a test that says what a decision says counts alike
pub tally_is : (p : ℕ → Bool) {P : ℕ → Type 0} (d : (j : ℕ) → Dec (P j)) (n : ℕ)
    → ((j : ℕ) → j < n → p j ≡ true → P j) → ((j : ℕ) → j < n → P j → p j ≡ true) → count p n ≡ tally d n
unfolding count tally
tally_is p d zero f g = refl
tally_is p {P} d (suc n) f g =
    omega (arith, tally_is p d n (λ j l. f j (omega arith)) (λ j l. g j (omega arith)), go (p n) refl (d n))
  where
    go : (b : Bool) → p n ≡ b → (x : Dec (P n)) → bit (p n) ≡ ite x 1 0
    go true e (yes q) = rw e
    go true e (no q) = absurd (q (f n (omega arith) e))
    go false e (yes q) = absurd (false≢true (sym e ∙ g n (omega arith) q))
    go false e (no q) = rw e

-- flags and marks of the replicas below R, as a server's record has them and as the protocol has them
module _ (R : ℕ) (flag flag' : ℕ → Bool) (mark mark' : ℕ → ℕ) (same : (j : ℕ) → j < R → flag j ≡ flag' j)
    (marks : (j : ℕ) → j < R → flag' j ≡ true → mark j ≡ mark' j) where
  flags_tie : count flag R ≡ tally (flagged? flag') R
  flags_tie = tally_is flag (flagged? flag') R (λ j l p. sym (same j l) ∙ p) (λ j l p. same j l ∙ p)

  reaching : (m j : ℕ) → j < R → (flag j && leb m (mark j)) ≡ true → (flag' j ≡ true) × (m ≤ mark' j)
  reaching m j l p =
      let q = both (flag j) (leb m (mark j)) p in
      let f = sym (same j l) ∙ q.0 in
      (f, omega (arith, leb-true m (mark j) q.1, marks j l f))

  reached : (m j : ℕ) → j < R → (flag' j ≡ true) × (m ≤ mark' j) → (flag j && leb m (mark j)) ≡ true
  reached m j l p = rw (same j l ∙ p.0, le-leb m (mark j) (omega (arith, p.1, marks j l p.0)))

  reach_tie : (m : ℕ) → reach flag mark R m ≡ tally (reaches? flag' mark' m) R
  reach_tie m = tally_is (λ j. flag j && leb m (mark j)) (reaches? flag' mark' m) R (reaching m) (reached m)

  above_tie : (D : ℕ) → reach flag mark R (suc D) ≡ tally (above? flag' mark' D) R
  above_tie D = tally_is (λ j. flag j && leb (suc D) (mark j)) (above? flag' mark' D) R (reaching (suc D)) (reached (suc D))

-- of session z of the protocol
module _ (R : ℕ) (σ : protocol.State) (z : ℕ) (r : σ.R ≡ R) (q : σ.Q ≡ quorum R) (flag : ℕ → Bool) (mark : ℕ → ℕ) where
  -- 8
  pub decided_tie : ((j : ℕ) → j < R → flag j ≡ voter σ z j) → ((j : ℕ) → j < R → voter σ z j ≡ true → mark j ≡ σ.recorded z j)
      → decided flag mark R ≡ true → Decided σ z (majority_mark flag mark R)
  unfolding decided
  decided_tie same marks e =
      let D = majority_mark flag mark R in
      let a = reach flag mark R (suc D) + (R - count flag R) in
      let b : a < quorum R = ltb-true a (quorum R) (both (leb (quorum R) (count flag R)) (ltb a (quorum R)) e).1 in
      traces.decided σ z D
      (rw (r, q)
      (omega (arith, b, flags_tie R flag (voter σ z) mark (σ.recorded z) same marks, above_tie R flag (voter σ z) mark (σ.recorded z) same marks D)))

  -- the acknowledged mark
  pub acknowledge_tie : Inv σ → σ.phase z ≡ protocol.Open
      → ((j : ℕ) → j < R → flag j ≡ σ.member z j) → ((j : ℕ) → j < R → σ.member z j ≡ true → mark j ≡ σ.recorded z j)
      → Can-acknowledge σ z (majority_mark flag mark R)
  acknowledge_tie I p same marks = record { phase = p; reached = rw (r, q) top; highest = highest }
    where
      tie : (m : ℕ) → reach flag mark R m ≡ tally (reaches? (σ.member z) (σ.recorded z) m) R
      tie = reach_tie R flag (σ.member z) mark (σ.recorded z) same marks

      enough : quorum R ≤ count flag R
      enough =
          let h : quorum R ≤ tally (reaches? (σ.member z) (σ.recorded z) (σ.acknowledged z)) R = rw (r, q) at (I.acks.reached z (I.numbers.live z p)) in
          omega (
            arith,
            h,
            reach_zero flag mark R,
            tie 0,
            count_mono (reaches? (σ.member z) (σ.recorded z) (σ.acknowledged z)) (reaches? (σ.member z) (σ.recorded z) 0) (λ j w. (w.0, omega arith)) R,
          )

      top : quorum R ≤ tally (reaches? (σ.member z) (σ.recorded z) (majority_mark flag mark R)) R
      top = omega (arith, majority_reached flag mark R enough, tie (majority_mark flag mark R))

      highest : (n : ℕ) → Reached σ z n → n ≤ majority_mark flag mark R
      highest n h =
          let k : quorum R ≤ tally (reaches? (σ.member z) (σ.recorded z) n) R = rw (r, q) at h in
          majority_above flag mark R n (omega (arith, I.quorum)) (omega (arith, k, tie n))

-- 8, of an opening server's record
pub vote_tie : (R : ℕ) (σ : protocol.State) (z : ℕ) → σ.R ≡ R → σ.Q ≡ quorum R → (v : Server) → OpeningTie R v (row_of σ z)
    → undecided R v ≡ false → Decided σ z (vote_mark R v)
vote_tie R σ z r q v T e =
    decided_tie R σ z r q (votes_at v) (mark_at v) (λ j l. cc (T.known j l, T.restored j l))
    (λ j l p. T.recorded j l (both (σ.known z j) (not (σ.handed_restored z j)) p).0) (not-false (decided (votes_at v) (mark_at v) R) e)
