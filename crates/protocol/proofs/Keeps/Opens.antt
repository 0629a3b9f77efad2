-- opens keeps the invariant: the new session joins the chain at D, above which every older one is unackable.
-- Assumes nothing.
use mathlib.Core.Path.{◌≡◌, refl, sym, ◌∙◌, ap}
use mathlib.Core.Logic.{◌⊎◌, inl, inr, ⊎_elim, ◌≢◌}
use mathlib.Core.Bool.{Bool, true, false, not, ◌&&◌, false≢true}
use mathlib.Core.List.{Memᴰ}
use Prim.Native.Nat.{ℕ, ◌≤◌, ◌<◌}
use native.Mathlib.Omega.{arith}
use Rattle.protocol.specs.State.{Clash, Phase, Opening, Open, State}
use Rattle.protocol.specs.Marks.{flagged?, reaches?, clean}
use Rattle.protocol.specs.Events.{Can-open, after_open}
use Rattle.protocol.proofs.Columns.{upd_elim, upd_at, upd_same, upd_other}
use Rattle.protocol.proofs.Counting.{count_mono}
use Rattle.protocol.proofs.Invariant.{Never, Recorded, NewestUpTo, Holds, TakenIn, Inv}
use Rattle.protocol.proofs.Facts.{not_both, opening≢open}
use Rattle.protocol.proofs.Clean.{clean_is, older, start_below, unackable_above, clean_promise, clean_mark, clean_holds, clean_same, start_agree, closing_kept, closing_below, closing_agree, closing_later}

module _ (σ : State) (I : Inv σ) (s D a : ℕ) (g : Can-open σ s D a) where
  abbrev τ : State
  τ = after_open σ s D a

  other : (t : ℕ) → σ.opened t ≡ true → s ≢ t
  other t o e = omega (arith, older σ I s D a g t o)

  still : (t : ℕ) → σ.opened t ≡ true → τ.opened t ≡ true
  still t o = upd_elim (λ (x : Bool). x ≡ true) σ.opened s true t (λ e. refl) (λ n. o)

  -- an opened session is s, or an old one
  each : (P : ℕ → Type 0) → P s → ((t : ℕ) → σ.opened t ≡ true → s ≢ t → P t) → (t : ℕ) → τ.opened t ≡ true → P t
  each P new old t = upd_elim (λ (x : Bool). x ≡ true → P t) σ.opened s true t (λ e o. rw (← e) new) (λ n o. old t o n)

  -- of two, the later is s, or both are old
  pairs : (P : ℕ → ℕ → Type 0) → ((t : ℕ) → σ.opened t ≡ true → s ≢ t → P t s)
      → ((t u : ℕ) → σ.opened t ≡ true → s ≢ t → σ.opened u ≡ true → s ≢ u → t < u → P t u)
      → (t u : ℕ) → τ.opened t ≡ true → τ.opened u ≡ true → t < u → P t u
  pairs P new old t u ot ou = each (λ x. x < u → P x u)
      (λ l. absurd (omega (arith, each (λ x. x ≤ s) (omega arith) (λ x o n. omega (arith, older σ I s D a g x o)) u ou)))
      (λ x o n l. each (λ y. x < y → P x y) (λ m. new x o n) (λ y oy k m. old x y o n oy k m) u ou l) t ot

  -- an opening session is an older one
  was : (t : ℕ) → τ.phase t ≡ Opening → (s ≢ t) × (σ.phase t ≡ Opening)
  was t = upd_elim (λ (x : Phase). x ≡ Opening → (s ≢ t) × (σ.phase t ≡ Opening)) σ.phase s Open t
      (λ e p. absurd (opening≢open (sym p))) (λ n p. (n, p))

  -- the columns of the opened sessions, at an old one
  member_old : (t : ℕ) → s ≢ t → τ.member t ≡ σ.member t
  member_old t n = upd_other σ.member s (clean σ s D) t n

  start_old : (t : ℕ) → s ≢ t → τ.start t ≡ σ.start t
  start_old t n = upd_other σ.start s D t n

  issued_old : (t : ℕ) → s ≢ t → τ.issued t ≡ σ.issued t
  issued_old t n = upd_other σ.issued s D t n

  log_old : (t : ℕ) → s ≢ t → τ.log t ≡ σ.log t
  log_old t n = upd_other σ.log s (σ.place a) t n

  acknowledged_old : (t : ℕ) → s ≢ t → τ.acknowledged t ≡ σ.acknowledged t
  acknowledged_old t n = upd_other σ.acknowledged s D t n

  estimate_old : (t : ℕ) → s ≢ t → τ.estimate t ≡ σ.estimate t
  estimate_old t n = upd_other σ.estimate s _ t n

  -- and at s
  member_new : τ.member s ≡ clean σ s D
  member_new = upd_same σ.member s (clean σ s D)

  member_new_at : (i : ℕ) → τ.member s i ≡ clean σ s D i
  member_new_at i = ap (λ (f : ℕ → Bool). f i) member_new

  start_new : τ.start s ≡ D
  start_new = upd_same σ.start s D

  issued_new : τ.issued s ≡ D
  issued_new = upd_same σ.issued s D

  log_new : τ.log s ≡ σ.place a
  log_new = upd_same σ.log s (σ.place a)

  acknowledged_new : τ.acknowledged s ≡ D
  acknowledged_new = upd_same σ.acknowledged s D

  -- what is not restored afterwards was not before, or is clean
  not_restored : (i : ℕ) → τ.restored i ≡ false → (σ.restored i ≡ false) ⊎ (clean σ s D i ≡ true)
  not_restored i = go (σ.restored i) (clean σ s D i)
    where
      go : (a b : Bool) → (not b && a) ≡ false → (a ≡ false) ⊎ (b ≡ true)
      go a false e = inl e
      go a true e = inr refl

  -- what is restored afterwards was so before, and is not clean
  still_restored : (i : ℕ) → τ.restored i ≡ true → (σ.restored i ≡ true) × (clean σ s D i ≡ false)
  still_restored i = go (σ.restored i) (clean σ s D i)
    where
      go : (a b : Bool) → (not b && a) ≡ true → (a ≡ true) × (b ≡ false)
      go a false e = (e, refl)
      go a true e = absurd (false≢true e)

  unclean : (i : ℕ) → τ.restored i ≡ false → τ.member s i ≡ false → σ.restored i ≡ false
  unclean i r m = ⊎_elim (λ q. q) (λ c. absurd (not_both c (sym (member_new_at i) ∙ m))) (not_restored i r)

  -- ---- clauses that take more than a line

  -- an older session is not the newest up to what a clean replica promises, which is s
  passed : (i b : ℕ) → σ.opened b ≡ true → clean σ s D i ≡ true → ¬ NewestUpTo τ.opened (σ.promise i) b
  passed i b o c h = omega (
    arith,
    h s (upd_same σ.opened s true) (omega (arith, clean_promise σ I s D a g i c)),
    older σ I s D a g b o,
  )

  -- a session that was taken earlier and is still opening
  stale : (t : ℕ) → s ≢ t → σ.phase t ≡ Opening → TakenIn τ t
  stale t n p = record {
    taken = f.taken;
    base_opened = still (σ.base t) f.base_opened;
    below = f.below;
    top = λ u ou. each (λ u. u ≤ t → u ≤ σ.base t) (λ l. absurd (omega (arith, less))) (λ u o m. f.top u o) u ou;
    entries = λ i. rw (member_old (σ.base t) (other _ f.base_opened)) (f.entries i);
    shut = λ i. rw (member_old (σ.base t) (other _ f.base_opened))
        (λ m l. (member_new_at i ∙ dirty i l, closing_kept σ I s D a g i (f.shut i m l).0 ∙ (f.shut i m l).1));
    marked = λ i l. rw (dirty i l) (f.marked i l);
  }
    where
      f : TakenIn σ t
      f = I.taken t p

      less : t < s
      less = omega (arith, f.taken, g.session)

      -- a replica that has not promised more than t is not clean
      dirty : (i : ℕ) → σ.promise i ≤ t → clean σ s D i ≡ false
      dirty i l = go (clean σ s D i) refl
        where
          go : (b : Bool) → clean σ s D i ≡ b → clean σ s D i ≡ false
          go false e = e
          go true e = absurd (omega (arith, clean_promise σ I s D a g i e, less))

  -- what lies within all later starting marks did so before
  before : (t n : ℕ) → ((w : ℕ) → τ.opened w ≡ true → t < w → n ≤ τ.start w) → (w : ℕ) → σ.opened w ≡ true → t < w → n ≤ σ.start w
  before t n h w o l = rw (start_old w (other w o)) at (h w (still w o) l)

  agree : (t u n : ℕ) → τ.opened t ≡ true → τ.opened u ≡ true → t < u
      → ((w : ℕ) → τ.opened w ≡ true → t < w → n ≤ τ.start w) → (n ≤ τ.issued t) × (τ.log t n ≡ τ.log u n)
  agree t u n = pairs (λ t u. ((w : ℕ) → τ.opened w ≡ true → t < w → n ≤ τ.start w) → (n ≤ τ.issued t) × (τ.log t n ≡ τ.log u n))
      (λ t o k h.
      let l : n ≤ D = rw upd_same at (h s (upd_same σ.opened s true) (older σ I s D a g t o)) in
      rw (issued_old t k, log_old t k, log_new) (start_agree σ I s D a g t n o l (before t n h)))
      (λ t u o k ou m l h. rw (issued_old t k, log_old t k, log_old u m) (I.chain.agree t u n o ou l (before t n h)))
      t u

  recorded : Recorded σ.R σ.Q τ.member σ.recorded s (τ.acknowledged s)
  recorded = rw (member_new, acknowledged_new) (omega (
    arith,
    g.quorum,
    count_mono (flagged? (clean σ s D)) (reaches? (clean σ s D) (σ.recorded s) D) (λ j c. (c, omega (arith, (clean_is σ s D j c).1))) σ.R,
  ))

  -- the starting log is a part of the newest log, and so has no clash
  apart : (n m : ℕ) → m < n → n ≤ τ.issued s → Clash (τ.log s n) (τ.log s m) → m ≤ (τ.log s n).client_mark
  apart n m = rw (issued_new, log_new) (λ l h.
      let hn = clean_holds σ I s D a g a n g.clean_a h in
      let hm = clean_holds σ I s D a g a m g.clean_a (omega arith) in
      rw (hn.1, hm.1) (I.locks.apart σ.newest n m I.numbers.newest_opened l hn.0))

  pub open_inv : Inv (after_open σ s D a)
  open_inv = record {
    quorum = I.quorum;
    numbers = record {
      promise≤ = I.numbers.promise≤;
      newest≤ = omega (arith, g.session);
      newest_opened = upd_same σ.opened s true;
      none_newer = each (λ t. t ≤ s) (omega arith) (λ t o n. omega (arith, older σ I s D a g t o));
      live = λ t. upd_elim (λ (x : Phase). x ≡ Open → τ.opened t ≡ true) σ.phase s Open t
          (λ e p. upd_at σ.opened s true t e) (λ n p. still t (I.numbers.live t p));
      joined = λ t j. each (λ t. τ.member t j ≡ true → t ≤ σ.promise j)
          (rw member_new (λ c. omega (arith, clean_promise σ I s D a g j c)))
          (λ t o n. rw (member_old t n) (I.numbers.joined t j o)) t;
      parted = λ t j. each (λ t. τ.member t j ≡ true → τ.restored j ≡ true → t < σ.promise j)
          (λ m r. absurd (not_both (sym (member_new_at j) ∙ m) (still_restored j r).1))
          (λ t o n. rw (member_old t n) (λ m r. I.numbers.parted t j o m (still_restored j r).0)) t;
      entries = λ i. sym (member_new_at i);
    };
    taken = λ t p. stale t (was t p).0 (was t p).1;
    known = record { nobody = I.known.nobody; promised = λ t j p. I.known.promised t j (was t p).1 };
    chain = record {
      rising = pairs (λ t u. τ.start t ≤ τ.start u)
          (λ t o n. rw (start_old t n, start_new) (start_below σ I s D a g t o))
          (λ t u o n ou m l. rw (start_old t n, start_old u m) (I.chain.rising t u o ou l));
      agree = agree;
      filled = each (λ t. τ.start t ≤ τ.issued t) (rw (start_new, issued_new) (omega arith))
          (λ t o n. rw (start_old t n, issued_old t n) (I.chain.filled t o));
    };
    acks = record {
      unackable = λ t u m. pairs (λ t u. τ.start u < m → Never τ t m)
          (λ t o n. rw (member_old t n, start_new) (unackable_above σ I s D a g t m o))
          (λ t u o n ou e l. rw (member_old t n, start_old u e) (I.acks.unackable t u m o ou l)) t u;
      ahead = each (λ t. τ.start t ≤ τ.acknowledged t) (rw (start_new, acknowledged_new) (omega arith))
          (λ t o n. rw (start_old t n, acknowledged_old t n) (I.acks.ahead t o));
      reached = each (λ t. Recorded σ.R σ.Q τ.member σ.recorded t (τ.acknowledged t)) recorded (λ t o n. rw (member_old t n, acknowledged_old t n) (I.acks.reached t o));
      above = λ t j. each (λ t. τ.member t j ≡ true → τ.start t ≤ σ.recorded t j)
          (rw (member_new, start_new) (λ c. omega (arith, (clean_is σ s D j c).1)))
          (λ t o n. rw (member_old t n, start_old t n) (I.acks.above t j o)) t;
      within = λ t j. each (λ t. τ.member t j ≡ true → σ.recorded t j ≤ τ.issued t)
          (rw (member_new, issued_new) (λ c. omega (arith, (clean_is σ s D j c).1)))
          (λ t o n. rw (member_old t n, issued_old t n) (I.acks.within t j o)) t;
    };
    logs = record {
      prefix = λ i b n r. each (λ b. τ.member b i ≡ true → NewestUpTo τ.opened (σ.promise i) b → n ≤ σ.mark i → Holds σ.place τ.log τ.issued i b n)
          (rw (member_new, issued_new, log_new)
          (λ c h l. let k : n ≤ D = omega (arith, clean_mark σ I s D a g i c) in (k, clean_same σ I s D a g i n c k)))
          (λ b o k. rw (member_old b k, issued_old b k, log_old b k) (λ m h l. ⊎_elim
          (λ q. I.logs.prefix i b n q o m (λ u ou e. h u (still u ou) e) l)
          (λ c. absurd (passed i b o c h))
          (not_restored i r))) b;
      closed = λ i n r m l h. rw log_new (closing_agree σ I s D a g i n (unclean i r m) l h);
      closes = λ i m. rw start_new (closing_below σ I s D a g i);
      later = λ i u m. each (λ u. σ.promise i < u → τ.closing i ≤ τ.start u)
          (λ l. rw start_new (closing_below σ I s D a g i)) (λ u o n l. rw (start_old u n) (closing_later σ I s D a g i u o l)) u;
    };
    heard = record {
      exact = λ t j p. I.heard.exact t j (was t p).1;
      copied = λ t j n p k e l.
          let b = other _ (I.taken t (was t p).1).base_opened in
          rw (issued_old _ b, log_old _ b) (I.heard.copied t j n (was t p).1 k e l);
    };
    lows = λ i. let w = I.lows i in record {
      session = w.session;
      below = w.below;
      «open» = still w.session w.«open»;
      within = rw (start_old w.session (other _ w.«open»)) w.within;
      agrees = λ n l h. rw (log_old w.session (other _ w.«open»)) (w.agrees n l h);
    };
    votes = record {
      fell = λ i m r e l h.
          let c : clean σ s D i ≡ true = rw upd_same at e in
          absurd (omega (arith, clean_mark σ I s D a g i c, (clean_is σ s D i c).1));
      missed = λ t j m p l k v e h r. absurd (omega (arith, (I.taken t (was t p).1).taken, g.session));
    };
    locks = record {
      floor = λ t l. each (λ t. τ.start t ≤ τ.estimate t l) (rw (start_new, upd_same σ.estimate s _) (omega arith))
          (λ t o n. rw (start_old t n, estimate_old t n) (I.locks.floor t l o)) t;
      entered = λ t n l. each (λ t. τ.start t < n → n ≤ τ.issued t → Memᴰ l (τ.log t n).locks → n ≤ τ.estimate t l)
          (rw (start_new, issued_new) (λ x y z. absurd (omega arith)))
          (λ t o k. rw (start_old t k, issued_old t k, log_old t k, estimate_old t k) (I.locks.entered t n l o)) t;
      apart = λ t n m. each (λ t. m < n → n ≤ τ.issued t → Clash (τ.log t n) (τ.log t m) → m ≤ (τ.log t n).client_mark)
          (apart n m) (λ t o k. rw (issued_old t k, log_old t k) (I.locks.apart t n m o)) t;
    };
  }
