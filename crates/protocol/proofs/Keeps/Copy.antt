-- copy keeps the invariant: what is copied is the next of the base's log.
-- Assumes nothing.
use mathlib.Core.Path.{◌≡◌, ◌∙◌, ap}
use mathlib.Core.Logic.{⊎_elim}
use Prim.Native.Nat.{ℕ, suc, ◌<◌}
use native.Mathlib.Omega.{arith}
use Rattle.protocol.specs.Columns.{upd}
use Rattle.protocol.specs.State.{Tx, State}
use Rattle.protocol.specs.Events.{Can-copy, after_copy}
use Rattle.protocol.proofs.Columns.{upd_elim, upd²_elim, upd²_at, upd²_other, append_up, append_cases}
use Rattle.protocol.proofs.Invariant.{Holds, TakenIn, Inv}
use Rattle.protocol.proofs.Facts.{recorded_newest, acks_heard, logs_appended, lows_appended}

module _ (σ : State) (I : Inv σ) (s a b : ℕ) (g : Can-copy σ s a b) where
  abbrev τ : State
  τ = after_copy σ s a b

  -- what is copied
  abbrev x : Tx
  x = σ.place a (suc (σ.mark b))

  next : Holds σ.place σ.log σ.issued a (σ.base s) (suc (σ.mark b))
  next = I.heard.copied s a (suc (σ.mark b)) g.phase g.known_a g.promise_a g.more

  f : TakenIn σ s
  f = I.taken s g.phase

  -- the new marks
  abbrev row : ℕ → ℕ
  row = upd (σ.recorded s) b (suc (σ.mark b))

  newest_row : τ.recorded σ.newest ≡ σ.recorded σ.newest
  newest_row = recorded_newest σ I s g.phase row

  -- no mark that was heard falls
  up : (t j m : ℕ) → τ.recorded t j < m → σ.recorded t j < m
  up t j m = upd²_elim (λ (y : ℕ). y < m → σ.recorded t j < m) σ.recorded s b (suc (σ.mark b)) t j
      (λ d q h. rw (← d, ← q) (omega (arith, I.heard.exact s b g.phase g.known_b g.promise_b))) (λ d h. h)

  pub copy_inv : Inv (after_copy σ s a b)
  copy_inv = record {
    quorum = I.quorum;
    numbers = I.numbers;
    taken = I.taken;
    known = I.known;
    chain = I.chain;
    acks = acks_heard σ I s g.phase row;
    logs = logs_appended σ I b (σ.base s) x f.base_opened (omega (arith, f.below, g.promise_b))
        (λ u o h. f.top u o (omega (arith, g.promise_b))) next.0 next.1;
    heard = record {
      exact = λ t j p k e. upd_elim (λ (y : ℕ). τ.recorded t j ≡ y) σ.mark b (suc (σ.mark b)) j
          (λ d. upd²_at σ.recorded s b (suc (σ.mark b)) t j (omega (arith, g.promise_b, ap σ.promise d)) d)
          (λ d. upd²_other σ.recorded s b (suc (σ.mark b)) t j (λ q. d q.1) ∙ I.heard.exact t j p k e);
      copied = λ t j n p k e l. ⊎_elim
          (λ q. let w = I.heard.copied t j n p k e q.0 in (w.0, q.1 ∙ w.1))
          (λ q.
          let d : t ≡ s = omega (arith, g.promise_b, ap σ.promise q.0) in
          (rw (d, q.1) next.0, cc (q.2, next.1, q.1, d)))
          (append_cases σ.place σ.mark b x j n l);
    };
    lows = lows_appended σ I b (σ.base s) x f.base_opened (omega (arith, f.below, g.promise_b))
        (λ u o h. f.top u o (omega (arith, g.promise_b))) next.0 next.1;
    votes = record {
      fell = λ j m v e h r. rw newest_row (I.votes.fell j m v e (omega (arith, append_up σ.mark b j)) (rw newest_row at r));
      missed = λ t j m p l k v e h r. rw newest_row (I.votes.missed t j m p l k v e (up t j m h) (rw newest_row at r));
    };
    locks = I.locks;
  }
