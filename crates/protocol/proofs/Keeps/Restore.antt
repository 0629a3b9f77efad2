-- restore keeps the invariant: the promise rises above every session that was taken, and the entry is marked, so that nothing is asked of what the
-- replica holds but its places up to the low-water mark; those are the bytes' own, and were in the log of an opened session.
-- Assumes nothing.
use mathlib.Core.Path.{◌≡◌, sym, ◌∙◌}
use mathlib.Core.Logic.{⊎_map, ◌≢◌}
use mathlib.Core.Bool.{Bool, true, false, true≢false}
use Prim.Native.Nat.{ℕ, ◌≤◌, ◌<◌}
use native.Mathlib.Omega.{arith}
use native.Mathlib.Decide.{ℕ_discrete}
use Rattle.protocol.specs.State.{State, Content, content}
use Rattle.protocol.specs.Events.{Can-restore, after_restore, Saved}
use Rattle.protocol.proofs.Columns.{upd_elim, upd_at, upd_other, upd_up}
use Rattle.protocol.proofs.Invariant.{Never, Inv}
use Rattle.protocol.proofs.Facts.{unackable_kept}

module _ (σ : State) (I : Inv σ) (i : ℕ) (c : Content) (g : Can-restore σ c) where
  abbrev τ : State
  τ = after_restore σ i c

  -- the raised session
  abbrev t : ℕ
  t = τ.session

  up : (j : ℕ) → σ.promise j ≤ τ.promise j
  up = upd_up σ.promise i _ (omega (arith, I.numbers.promise≤ i))

  -- A replica that promises a session that was taken before is another one, and is as it was;
  else : (j s : ℕ) → τ.promise j ≤ s → s ≤ σ.session → i ≢ j
  else j s h l e = omega (arith, upd_at σ.promise i t j e)

  -- so is one that is not restored.
  other : (j : ℕ) → τ.restored j ≡ false → i ≢ j
  other j r e = true≢false (sym (upd_at σ.restored i true j e) ∙ r)

  -- the columns of another replica
  mark_old : (j : ℕ) → i ≢ j → τ.mark j ≡ σ.mark j
  mark_old j n = upd_other σ.mark i _ j n

  place_old : (j : ℕ) → i ≢ j → τ.place j ≡ σ.place j
  place_old j n = upd_other σ.place i _ j n

  low_old : (j : ℕ) → i ≢ j → τ.low j ≡ σ.low j
  low_old j n = upd_other σ.low i _ j n

  promise_old : (j : ℕ) → i ≢ j → τ.promise j ≡ σ.promise j
  promise_old j n = upd_other σ.promise i t j n

  restored_old : (j : ℕ) → i ≢ j → τ.restored j ≡ σ.restored j
  restored_old j n = upd_other σ.restored i true j n

  -- no opened session gains
  unackable : (s m : ℕ) → σ.opened s ≡ true → Never σ s m → Never τ s m
  unackable s m o = unackable_kept _ _ σ.member σ.member σ.recorded σ.recorded σ.promise τ.promise s m
      (λ j k. (k.0, ⊎_map (λ r. r) (kept j) k.1))
    where
      kept : (j : ℕ) → τ.promise j ≡ s → σ.promise j ≡ s
      kept j = upd_elim (λ (x : ℕ). x ≡ s → σ.promise j ≡ s) σ.promise i t j
          (λ e f. absurd (omega (arith, I.numbers.none_newer s o, I.numbers.newest≤))) (λ n f. f)

  -- i gets the bytes, the others keep what they have
  lows : (j : ℕ) → Saved σ.opened σ.start σ.log (τ.promise j) (content τ j)
  lows j = go (ℕ_discrete i j)
    where
      go : Dec (i ≡ j) → Saved σ.opened σ.start σ.log (τ.promise j) (content τ j)
      go (yes e) = rw (upd_at σ.promise i t j e, upd_at σ.mark i c.mark j e, upd_at σ.place i c.place j e, upd_at σ.low i _ j e)
          (record { session = g.session; below = omega (arith, g.below); «open» = g.«open»; within = g.within; agrees = g.agrees })
      go (no n) = rw (promise_old j n, mark_old j n, place_old j n, low_old j n) (I.lows j)

  pub restore_inv : Inv (after_restore σ i c)
  restore_inv = record {
    quorum = I.quorum;
    numbers = record {
      promise≤ = λ j. upd_elim (λ (x : ℕ). x ≤ t) σ.promise i t j (λ e. omega arith) (λ n. omega (arith, I.numbers.promise≤ j));
      newest≤ = omega (arith, I.numbers.newest≤);
      newest_opened = I.numbers.newest_opened;
      none_newer = I.numbers.none_newer;
      live = I.numbers.live;
      joined = λ s j o m. omega (arith, I.numbers.joined s j o m, up j);
      parted = λ s j o m. upd_elim (λ (x : Bool). x ≡ true → s < τ.promise j) σ.restored i true j
          (λ e r. omega (arith, upd_at σ.promise i t j e, I.numbers.none_newer s o, I.numbers.newest≤))
          (λ n r. omega (arith, I.numbers.parted s j o m r, up j));
      entries = I.numbers.entries;
    };
    taken = λ s p. let f = I.taken s p in record {
      taken = omega (arith, f.taken);
      base_opened = f.base_opened;
      below = f.below;
      top = f.top;
      entries = f.entries;
      shut = λ j m h. f.shut j m (omega (arith, up j));
      marked = λ j h. rw (restored_old j (else j s h f.taken)) (f.marked j (omega (arith, up j)));
    };
    known = record {
      nobody = λ s j l. I.known.nobody s j (omega arith);
      promised = λ s j p k. omega (arith, I.known.promised s j p k, up j);
    };
    chain = I.chain;
    acks = record {
      unackable = λ s u m os ou l h. unackable s m os (I.acks.unackable s u m os ou l h);
      ahead = I.acks.ahead;
      reached = I.acks.reached;
      above = I.acks.above;
      within = I.acks.within;
    };
    logs = record {
      prefix = λ j b n r. let d = other j r in
          rw (promise_old j d, mark_old j d, place_old j d) (I.logs.prefix j b n (rw (restored_old j d) at r));
      closed = λ j n r. let d = other j r in rw (mark_old j d, place_old j d) (I.logs.closed j n (rw (restored_old j d) at r));
      closes = I.logs.closes;
      later = λ j u m o h. I.logs.later j u m o (omega (arith, up j));
    };
    heard = record {
      exact = λ s j p k e. let d = else j s (omega arith) (I.taken s p).taken in
          rw (mark_old j d) (I.heard.exact s j p k (rw (promise_old j d) at e));
      copied = λ s j n p k e. let d = else j s (omega arith) (I.taken s p).taken in
          rw (mark_old j d, place_old j d) (I.heard.copied s j n p k (rw (promise_old j d) at e));
    };
    lows = lows;
    votes = record {
      fell = λ j m r e l h. let d = other j r in
          unackable _ m I.numbers.newest_opened (I.votes.fell j m (rw (restored_old j d) at r) e (rw (mark_old j d) at l) h);
      missed = λ s j m p l k v e h r. unackable _ m I.numbers.newest_opened (I.votes.missed s j m p l k v e h r);
    };
    locks = I.locks;
  }
