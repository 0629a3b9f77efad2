-- learn keeps the invariant: what a prepared replica holds is a part of the base's log, and the mark heard is the one that is there.
-- Assumes nothing.
use mathlib.Core.Path.{◌≡◌, refl, sym, ◌∙◌, ap}
use mathlib.Core.Logic.Dec
use mathlib.Core.Logic.{◌⊎◌, inl, inr, ⊎_elim}
use mathlib.Core.Bool.{Bool, true, false}
use Prim.Native.Nat.{ℕ, ◌≤◌, ◌<◌}
use native.Mathlib.Omega.{arith}
use native.Mathlib.Decide.{ℕ_discrete}
use Rattle.protocol.specs.Columns.{upd}
use Rattle.protocol.specs.State.{Opening, State, content}
use Rattle.protocol.specs.Events.{Can-learn, after_learn}
use Rattle.protocol.proofs.Columns.{upd²_elim, upd²_at, upd²_other}
use Rattle.protocol.proofs.Invariant.{Never, NewestUpTo, Holds, TakenIn, Inv}
use Rattle.protocol.proofs.Facts.{below_closing, below_low, recorded_newest, acks_heard}

module _ (σ : State) (I : Inv σ) (s i : ℕ) (g : Can-learn σ s i) where
  abbrev τ : State
  τ = after_learn σ s i

  f : TakenIn σ s
  f = I.taken s g.phase

  top : NewestUpTo σ.opened (σ.promise i) (σ.base s)
  top u o h = f.top u o (omega (arith, g.promise))

  -- i is restored as the entry handed over says
  marked : σ.restored i ≡ σ.handed_restored s i
  marked = f.marked i (omega (arith, g.promise))

  -- what i holds is the base's: as its member, or up to its closing mark, or up to its low-water mark
  part : (n : ℕ) → n ≤ σ.mark i → Holds σ.place σ.log σ.issued i (σ.base s) n
  part n l = go (σ.handed_restored s i) (σ.handed_unresolved s i) refl refl
    where
      go : (r b : Bool) → σ.handed_restored s i ≡ r → σ.handed_unresolved s i ≡ b → Holds σ.place σ.log σ.issued i (σ.base s) n
      go true b r e =
          let c : n ≤ σ.low i = omega (arith, g.low r) in
          let w = below_low σ I (σ.promise i) (content σ i) (I.lows i) (σ.base s) n f.base_opened top c in
          (w.0, (I.lows i).agrees n l c ∙ sym w.1)
      go false true r e = I.logs.prefix i (σ.base s) n (marked ∙ r) f.base_opened (sym (f.entries i) ∙ e) top l
      go false false r e =
          let h = f.shut i (sym (f.entries i) ∙ e) (omega (arith, g.promise)) in
          let c : n ≤ σ.closing i = omega (arith, h.1, g.whole r e) in
          let w = below_closing σ I i (σ.base s) n h.0 f.base_opened top c in
          (w.0, I.logs.closed i n (marked ∙ r) h.0 l c ∙ sym w.1)

  -- the new marks
  abbrev row : ℕ → ℕ
  row = upd (σ.recorded s) i (σ.mark i)

  newest_row : τ.recorded σ.newest ≡ σ.recorded σ.newest
  newest_row = recorded_newest σ I s g.phase row

  -- a known replica is the new one, or was known
  cases : (t j : ℕ) → τ.known t j ≡ true → ((s ≡ t) × (i ≡ j)) ⊎ ((σ.known t j ≡ true) × (τ.recorded t j ≡ σ.recorded t j))
  cases t j k = go (Dec.and (ℕ_discrete s t) (ℕ_discrete i j))
    where
      go : Dec ((s ≡ t) × (i ≡ j)) → ((s ≡ t) × (i ≡ j)) ⊎ ((σ.known t j ≡ true) × (τ.recorded t j ≡ σ.recorded t j))
      go (yes p) = inl p
      go (no n) = inr (sym (upd²_other σ.known s i true t j n) ∙ k, upd²_other σ.recorded s i (σ.mark i) t j n)

  -- of the new one the mark is heard
  heard : (t j : ℕ) → (s ≡ t) × (i ≡ j) → τ.recorded t j ≡ σ.mark j
  heard t j q = upd²_at σ.recorded s i (σ.mark i) t j q.0 q.1 ∙ ap σ.mark q.1

  missed : (t j m : ℕ) → ((s ≡ t) × (i ≡ j)) ⊎ ((σ.known t j ≡ true) × (τ.recorded t j ≡ σ.recorded t j)) → σ.phase t ≡ Opening → σ.newest < t
      → σ.handed_restored t j ≡ false → σ.member σ.newest j ≡ true → τ.recorded t j < m → m ≤ σ.recorded σ.newest j → Never σ σ.newest m
  missed t j m (inl q) p l v e h r = I.votes.fell j m (rw (← q.1) (marked ∙ rw (q.0, q.1) v)) e (omega (arith, heard t j q)) r
  missed t j m (inr q) p l v e h r = I.votes.missed t j m p l q.0 v e (omega (arith, q.1)) r

  pub learn_inv : Inv (after_learn σ s i)
  learn_inv = record {
    quorum = I.quorum;
    numbers = I.numbers;
    taken = I.taken;
    known = record {
      nobody = λ t j l. upd²_elim (λ (x : Bool). x ≡ false) σ.known s i true t j
          (λ e d. absurd (omega (arith, f.taken))) (λ n. I.known.nobody t j l);
      promised = λ t j p. upd²_elim (λ (x : Bool). x ≡ true → t ≤ σ.promise j) σ.known s i true t j
          (λ e d k. omega (arith, g.promise, ap σ.promise d)) (λ n. I.known.promised t j p);
    };
    chain = I.chain;
    acks = acks_heard σ I s g.phase row;
    logs = I.logs;
    heard = record {
      exact = λ t j p k e. ⊎_elim (heard t j) (λ r. r.1 ∙ I.heard.exact t j p r.0 e) (cases t j k);
      copied = λ t j n p k e l. ⊎_elim (λ q. rw (← q.0, ← q.1) (part n (rw q.1 l))) (λ r. I.heard.copied t j n p r.0 e l) (cases t j k);
    };
    lows = I.lows;
    votes = record {
      fell = λ j m. rw newest_row (I.votes.fell j m);
      missed = λ t j m p l k v e h r. rw newest_row (missed t j m (cases t j k) p l v e h (rw newest_row at r));
    };
    locks = I.locks;
  }
