-- take keeps the invariant: the new session's base is the newest opened one, and what it is handed is what the register has.
-- Assumes nothing.
use mathlib.Core.Path.{◌≡◌, refl}
use mathlib.Core.Logic.{◌⊎◌, inl, inr, ⊎_elim, ◌≢◌}
use mathlib.Core.Bool.{true}
use Prim.Native.Nat.{ℕ, suc}
use native.Mathlib.Omega.{arith}
use Rattle.protocol.specs.State.{Phase, Opening, Open, State}
use Rattle.protocol.specs.Events.{after_take}
use Rattle.protocol.proofs.Columns.{upd_elim, upd_at, upd_other}
use Rattle.protocol.proofs.Invariant.{TakenIn, Inv}
use Rattle.protocol.proofs.Facts.{not_both, opening≢open}

module _ (σ : State) (I : Inv σ) where
  -- the new session
  abbrev s : ℕ
  s = suc σ.session

  abbrev τ : State
  τ = after_take σ

  -- an opening session is the new one, or was opening
  cases : (t : ℕ) → τ.phase t ≡ Opening → (s ≡ t) ⊎ ((s ≢ t) × (σ.phase t ≡ Opening))
  cases t = upd_elim (λ (x : Phase). x ≡ Opening → (s ≡ t) ⊎ ((s ≢ t) × (σ.phase t ≡ Opening))) σ.phase s Opening t
      (λ e p. inl e) (λ n p. inr (n, p))

  -- one that knows a replica was
  old : (t j : ℕ) → τ.phase t ≡ Opening → σ.known t j ≡ true → (s ≢ t) × (σ.phase t ≡ Opening)
  old t j p k = ⊎_elim (λ e. absurd (not_both k (I.known.nobody t j (omega arith)))) (λ r. r) (cases t p)

  taken : (t : ℕ) → (s ≡ t) ⊎ ((s ≢ t) × (σ.phase t ≡ Opening)) → TakenIn τ t
  taken t (inl e) = rw (
    upd_at σ.base s σ.newest t e,
    upd_at σ.handed_unresolved s σ.unresolved t e,
    upd_at σ.handed_closing s σ.closing t e,
    upd_at σ.handed_restored s σ.restored t e,
  )
      (record {
        taken = omega arith;
        base_opened = I.numbers.newest_opened;
        below = omega (arith, I.numbers.newest≤);
        top = λ u o l. I.numbers.none_newer u o;
        entries = I.numbers.entries;
        shut = λ i m l. (m, refl);
        marked = λ i l. refl;
      })
  taken t (inr (n, p)) = rw (
    upd_other σ.base s σ.newest t n,
    upd_other σ.handed_unresolved s σ.unresolved t n,
    upd_other σ.handed_closing s σ.closing t n,
    upd_other σ.handed_restored s σ.restored t n,
  )
      (let f = I.taken t p in record {
        taken = omega (arith, f.taken);
        base_opened = f.base_opened;
        below = f.below;
        top = f.top;
        entries = f.entries;
        shut = f.shut;
        marked = f.marked;
      })

  pub take_inv : Inv (after_take σ)
  take_inv = record {
    quorum = I.quorum;
    numbers = record {
      promise≤ = λ j. omega (arith, I.numbers.promise≤ j);
      newest≤ = omega (arith, I.numbers.newest≤);
      newest_opened = I.numbers.newest_opened;
      none_newer = I.numbers.none_newer;
      live = λ t. upd_elim (λ (x : Phase). x ≡ Open → σ.opened t ≡ true) σ.phase s Opening t
          (λ e p. absurd (opening≢open p)) (λ n p. I.numbers.live t p);
      joined = I.numbers.joined;
      parted = I.numbers.parted;
      entries = I.numbers.entries;
    };
    taken = λ t p. taken t (cases t p);
    known = record {
      nobody = λ t j l. I.known.nobody t j (omega arith);
      promised = λ t j p k. I.known.promised t j (old t j p k).1 k;
    };
    chain = I.chain;
    acks = I.acks;
    logs = I.logs;
    heard = record {
      exact = λ t j p k. I.heard.exact t j (old t j p k).1 k;
      copied = λ t j n p k e l. rw (upd_other σ.base s σ.newest t (old t j p k).0) (I.heard.copied t j n (old t j p k).1 k e l);
    };
    lows = I.lows;
    votes = record {
      fell = I.votes.fell;
      missed = λ t j m p l k h. I.votes.missed t j m (old t j p k).1 l k (rw (upd_other σ.handed_restored s σ.restored t (old t j p k).0) at h);
    };
    locks = I.locks;
  }
