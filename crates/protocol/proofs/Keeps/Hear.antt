-- hear keeps the invariant: a recorded mark rises only while the replica promises the session, so what is unackable stays so.
-- Assumes nothing.
use mathlib.Core.Path.{◌≡◌, sym, ◌∙◌, ap}
use mathlib.Core.Logic.{◌⊎◌, inl, inr, ⊎_elim}
use Prim.Native.Nat.{ℕ, ◌≤◌}
use native.Mathlib.Omega.{arith}
use Rattle.protocol.specs.State.{Opening, State}
use Rattle.protocol.specs.Marks.{reaches?}
use Rattle.protocol.specs.Events.{Can-hear, after_hear}
use Rattle.protocol.proofs.Columns.{upd_other, upd²_elim}
use Rattle.protocol.proofs.Counting.{count_mono}
use Rattle.protocol.proofs.Invariant.{Never, Inv}
use Rattle.protocol.proofs.Facts.{opening≢open, unackable_kept, unrestored}

module _ (σ : State) (I : Inv σ) (s i : ℕ) (g : Can-hear σ s i) where
  abbrev τ : State
  τ = after_hear σ s i

  up : (t j : ℕ) → σ.recorded t j ≤ τ.recorded t j
  up t j = upd²_elim (λ (y : ℕ). σ.recorded t j ≤ y) σ.recorded s i (σ.mark i) t j (λ e f. rw (← e, ← f) g.up) (λ n. omega arith)

  unackable : (t m : ℕ) → Never σ t m → Never τ t m
  unackable t m = unackable_kept _ _ σ.member σ.member σ.recorded τ.recorded σ.promise σ.promise t m
      (λ j c. (c.0, ⊎_elim (kept j) (λ r. inr r) c.1))
    where
      kept : (j : ℕ) → m ≤ τ.recorded t j → (m ≤ σ.recorded t j) ⊎ (σ.promise j ≡ t)
      kept j = upd²_elim (λ (y : ℕ). m ≤ y → (m ≤ σ.recorded t j) ⊎ (σ.promise j ≡ t)) σ.recorded s i (σ.mark i) t j
          (λ e f h. inr (omega (arith, g.promise, ap σ.promise f))) (λ n h. inl h)

  -- what an opening server heard stays
  opening_row : (t : ℕ) → σ.phase t ≡ Opening → τ.recorded t ≡ σ.recorded t
  opening_row t p = upd_other σ.recorded s _ t (λ e. opening≢open (sym p ∙ ap σ.phase (sym e) ∙ g.phase))

  -- a member holds no more than is issued
  fits : σ.mark i ≤ σ.issued s
  fits =
      let o = I.numbers.live s g.phase in
      let r = unrestored σ I s i o g.member g.promise in
      (I.logs.prefix i s (σ.mark i) r o g.member (λ u o h. omega (arith, g.promise)) (omega arith)).0

  pub hear_inv : Inv (after_hear σ s i)
  hear_inv = record {
    quorum = I.quorum;
    numbers = I.numbers;
    taken = I.taken;
    known = I.known;
    chain = I.chain;
    acks = record {
      unackable = λ t u m ot ou l h. unackable t m (I.acks.unackable t u m ot ou l h);
      ahead = I.acks.ahead;
      reached = λ t o. omega (
        arith,
        I.acks.reached t o,
        count_mono (reaches? (σ.member t) (σ.recorded t) (σ.acknowledged t)) (reaches? (σ.member t) (τ.recorded t) (σ.acknowledged t))
            (λ j p. (p.0, omega (arith, p.1, up t j))) σ.R,
      );
      above = λ t j o m. omega (arith, I.acks.above t j o m, up t j);
      within = λ t j o m. upd²_elim (λ (y : ℕ). y ≤ σ.issued t) σ.recorded s i (σ.mark i) t j (λ e f. rw (← e) fits) (λ n. I.acks.within t j o m);
    };
    logs = I.logs;
    heard = record { exact = λ t j p k e. rw (opening_row t p) (I.heard.exact t j p k e); copied = I.heard.copied };
    lows = I.lows;
    votes = record {
      fell = λ j m v e l. upd²_elim (λ (y : ℕ). m ≤ y → Never τ σ.newest m) σ.recorded s i (σ.mark i) σ.newest j
          (λ d f h. absurd (omega (arith, ap σ.mark f))) (λ n h. unackable σ.newest m (I.votes.fell j m v e l h));
      missed = λ t j m p l k v e h. upd²_elim (λ (y : ℕ). m ≤ y → Never τ σ.newest m) σ.recorded s i (σ.mark i) σ.newest j
          (λ d f r. absurd (omega (arith, I.known.promised t j p k, ap σ.promise f, g.promise)))
          (λ n r. unackable σ.newest m (I.votes.missed t j m p l k v e (rw (opening_row t p) at h) r));
    };
    locks = I.locks;
  }
