-- What follows from the invariant at once, and three changes that several events share: a shorter log, an appended one, marks heard while opening.
-- Assumes nothing.
use mathlib.Core.Path.{◌≡◌, refl, sym, ◌∙◌, ap}
use mathlib.Core.Logic.{inl, ⊎_elim, ◌≢◌}
use mathlib.Core.Bool.{Bool, true, false, true≢false}
use Prim.Native.Nat.{ℕ, suc, ◌≤◌, ◌<◌}
use native.Mathlib.Omega.{arith}
use native.Mathlib.Decide.{dec_le, dec_lt}
use Rattle.protocol.specs.Columns.{upd, append_mark, append_place}
use Rattle.protocol.specs.State.{Tx, Phase, Idle, Opening, Open, State, Content, content}
use Rattle.protocol.specs.Marks.{reaches?}
use Rattle.protocol.specs.Events.{Saved}
use Rattle.protocol.proofs.Columns.{upd_other, append_cases}
use Rattle.protocol.proofs.Counting.{count_mono}
use Rattle.protocol.proofs.Invariant.{Could, could?, Unackable, Never, NewestUpTo, Acks, Logs, Inv}

-- a flag is not both
pub not_both : {b : Bool} → b ≡ true → b ≡ false → ⊥
not_both p q = true≢false (sym p ∙ q)

-- phases differ
abbrev opening? : Phase → Bool
opening? Idle = false
opening? Opening = true
opening? Open = false

abbrev open? : Phase → Bool
open? Idle = false
open? Opening = false
open? Open = true

pub idle≢opening : Idle ≢ Opening
idle≢opening e = true≢false (ap opening? (sym e))

pub idle≢open : Idle ≢ Open
idle≢open e = true≢false (ap open? (sym e))

pub opening≢open : Opening ≢ Open
opening≢open e = true≢false (ap opening? e)

-- where fewer may come to count, what was unackable is
pub unackable_kept : (R Q : ℕ) (member member' : ℕ → ℕ → Bool) (recorded recorded' : ℕ → ℕ → ℕ) (promise promise' : ℕ → ℕ) (s m : ℕ)
    → ((j : ℕ) → Could (member' s) (recorded' s) promise' s m j → Could (member s) (recorded s) promise s m j)
    → Unackable R Q member recorded promise s m → Unackable R Q member' recorded' promise' s m
unackable_kept R Q member member' recorded recorded' promise promise' s m f h =
    omega (arith, count_mono (could? (member' s) (recorded' s) promise' s m) (could? (member s) (recorded s) promise s m) f R)

module _ (σ : State) (I : Inv σ) where
  -- what is acknowledged lies below what is unackable
  pub acknowledged_below : (s m : ℕ) → σ.opened s ≡ true → Never σ s m → σ.acknowledged s < m
  acknowledged_below s m o h = go (dec_lt (σ.acknowledged s) m)
    where
      go : Dec (σ.acknowledged s < m) → σ.acknowledged s < m
      go (yes l) = l
      go (no n) = absurd (omega (
        arith,
        I.acks.reached s o,
        h,
        count_mono (reaches? (σ.member s) (σ.recorded s) (σ.acknowledged s)) (could? (σ.member s) (σ.recorded s) σ.promise s m)
            (λ j p. (p.0, inl (omega arith))) σ.R,
      ))

  -- an opening session is not opened
  pub unopened : (s : ℕ) → σ.phase s ≡ Opening → σ.opened s ≡ true → ⊥
  unopened s p o = omega (arith, (I.taken s p).top s o (omega arith), (I.taken s p).below)

  -- up to the closing mark of a resolved replica, the newest session up to its promise has what the newest has
  pub below_closing : (i b n : ℕ) → σ.member σ.newest i ≡ false → σ.opened b ≡ true → NewestUpTo σ.opened (σ.promise i) b
      → n ≤ σ.closing i → (n ≤ σ.issued b) × (σ.log b n ≡ σ.log σ.newest n)
  below_closing i b n m o top h = go (dec_lt b σ.newest)
    where
      newer : (w : ℕ) → σ.opened w ≡ true → b < w → Dec (w ≤ σ.promise i) → n ≤ σ.start w
      newer w ow l (yes p) = absurd (omega (arith, top w ow p))
      newer w ow l (no p) = omega (arith, I.logs.later i w m ow (omega arith))

      go : Dec (b < σ.newest) → (n ≤ σ.issued b) × (σ.log b n ≡ σ.log σ.newest n)
      go (yes l) = I.chain.agree b σ.newest n o I.numbers.newest_opened l (λ w ow k. newer w ow k (dec_le w (σ.promise i)))
      go (no l) =
          let e : b ≡ σ.newest = omega (arith, I.numbers.none_newer b o) in
          rw e (omega (arith, I.logs.closes i m, I.chain.filled σ.newest I.numbers.newest_opened), refl)

  -- a member that still promises its session was not restored since
  pub unrestored : (s i : ℕ) → σ.opened s ≡ true → σ.member s i ≡ true → σ.promise i ≡ s → σ.restored i ≡ false
  unrestored s i o m e = go (σ.restored i) refl
    where
      go : (b : Bool) → σ.restored i ≡ b → σ.restored i ≡ false
      go false r = r
      go true r = absurd (omega (arith, I.numbers.parted s i o m r))

  -- up to the low-water mark, the newest session up to p has what the session has in whose time that mark was written
  pub below_low : (p : ℕ) (c : Content) (w : Saved σ.opened σ.start σ.log p c) (b n : ℕ) → σ.opened b ≡ true → NewestUpTo σ.opened p b
      → n ≤ c.low → (n ≤ σ.issued b) × (σ.log b n ≡ σ.log w.session n)
  below_low p c w b n o top h = go (dec_lt w.session b)
    where
      go : Dec (w.session < b) → (n ≤ σ.issued b) × (σ.log b n ≡ σ.log w.session n)
      go (yes l) = (
        omega (arith, w.within, I.chain.rising w.session b w.«open» o l, I.chain.filled b o),
        sym (I.chain.agree w.session b n w.«open» o l (λ u ou k. omega (arith, w.within, I.chain.rising w.session u w.«open» ou k))).1,
      )
      go (no l) =
          let e : b ≡ w.session = omega (arith, top w.session w.«open» w.below) in
          (omega (arith, w.within, ap σ.start e, I.chain.filled b o), rw e)

  -- ---- a change of marks that an opening server heard: the opened sessions' rows stay

  module _ (s : ℕ) (p : σ.phase s ≡ Opening) (row : ℕ → ℕ) where
    recorded_old : (t : ℕ) → σ.opened t ≡ true → upd σ.recorded s row t ≡ σ.recorded t
    recorded_old t o = upd_other σ.recorded s row t (λ e. unopened s p (rw e o))

    pub recorded_newest : upd σ.recorded s row σ.newest ≡ σ.recorded σ.newest
    recorded_newest = recorded_old σ.newest I.numbers.newest_opened

    pub acks_heard : Acks σ.R σ.Q σ.promise (upd σ.recorded s row) σ.opened σ.member σ.start σ.issued σ.acknowledged
    acks_heard = record {
      unackable = λ t u m ot ou l h. rw (recorded_old t ot) (I.acks.unackable t u m ot ou l h);
      ahead = I.acks.ahead;
      reached = λ t o. rw (recorded_old t o) (I.acks.reached t o);
      above = λ t j o. rw (recorded_old t o) (I.acks.above t j o);
      within = λ t j o. rw (recorded_old t o) (I.acks.within t j o);
    }

  -- ---- logs that became shorter

  pub logs_shorter : (mark' : ℕ → ℕ) → ((j : ℕ) → mark' j ≤ σ.mark j)
      → Logs σ.newest σ.closing σ.restored σ.promise mark' σ.place σ.opened σ.member σ.start σ.issued σ.log
  logs_shorter mark' down = record {
    prefix = λ j b n r o m h l. I.logs.prefix j b n r o m h (omega (arith, down j));
    closed = λ j n r m l h. I.logs.closed j n r m (omega (arith, down j)) h;
    closes = I.logs.closes;
    later = I.logs.later;
  }

  pub lows_shorter : (mark' : ℕ → ℕ) → ((j : ℕ) → mark' j ≤ σ.mark j) → (j : ℕ)
      → Saved σ.opened σ.start σ.log (σ.promise j) (record { mark = mark' j; place = σ.place j; low = σ.low j })
  lows_shorter mark' down j = let w = I.lows j in record {
    session = w.session;
    below = w.below;
    «open» = w.«open»;
    within = w.within;
    agrees = λ n l. w.agrees n (omega (arith, down j));
  }

  -- ---- a log that got the next of the log of session b, the newest up to the replica's promise

  module _ (i b : ℕ) (x : Tx) (o : σ.opened b ≡ true) (l : b ≤ σ.promise i) (top : NewestUpTo σ.opened (σ.promise i) b)
      (h : suc (σ.mark i) ≤ σ.issued b) (e : x ≡ σ.log b (suc (σ.mark i))) where
    -- a member's newest session up to its promise is b
    same : (j c : ℕ) → i ≡ j → σ.opened c ≡ true → σ.member c j ≡ true → NewestUpTo σ.opened (σ.promise j) c → c ≡ b
    same j c q oc m n =
        let p = ap σ.promise q in
        omega (arith, n b o (omega arith), top c oc (omega (arith, I.numbers.joined c j oc m)))

    pub logs_appended : Logs σ.newest σ.closing σ.restored σ.promise (append_mark σ.mark i) (append_place σ.place σ.mark i x)
        σ.opened σ.member σ.start σ.issued σ.log
    logs_appended = record {
      prefix = λ j c n r oc m t k. ⊎_elim
          (λ q. let w = I.logs.prefix j c n r oc m t q.0 in (w.0, q.1 ∙ w.1))
          (λ q. let d = same j c q.0 oc m t in (rw (d, q.1) h, cc (q.2, e, q.1, d)))
          (append_cases σ.place σ.mark i x j n k);
      closed = λ j n r m k c. ⊎_elim
          (λ q. q.1 ∙ I.logs.closed j n r m q.0 c)
          (λ q. let w = below_closing i b n (rw q.0 m) o top (rw q.0 c) in cc (q.2, q.1, e, w.1))
          (append_cases σ.place σ.mark i x j n k);
      closes = I.logs.closes;
      later = I.logs.later;
    }

    pub lows_appended : (j : ℕ) → Saved σ.opened σ.start σ.log (σ.promise j)
        (record { mark = append_mark σ.mark i j; place = append_place σ.place σ.mark i x j; low = σ.low j })
    lows_appended j = let w = I.lows j in record {
      session = w.session;
      below = w.below;
      «open» = w.«open»;
      within = w.within;
      agrees = λ n k c. ⊎_elim
          (λ q. q.1 ∙ w.agrees n q.0 c)
          (λ q.
          let y = below_low (σ.promise j) (content σ j) w b n o (λ u ou m. top u ou (rw q.0 m)) c in
          cc (q.2, q.1, e, y.1))
          (append_cases σ.place σ.mark i x j n k);
    }
