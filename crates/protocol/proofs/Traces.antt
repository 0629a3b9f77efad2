-- The calls under each fate, as lists of events: the table at the top of specs/Events.antt. Each list asks what the call's own checks give.
-- "Silent" stands for every fate without an answer. How far a truncation came is said by k; whether a record was written, by the list's name.
-- Assumes nothing.
use mathlib.Core.Path.{◌≡◌, refl}
use mathlib.Core.Bool.{Bool, true, false}
use Prim.Native.Nat.{ℕ, suc, ◌+◌, ◌-◌, ◌≤◌, ◌<◌}
use native.Mathlib.Omega.{arith}
use native.Mathlib.Decide.{dec_le}
use Rattle.protocol.specs.Columns.{count}
use Rattle.protocol.specs.State.{Tx, Opening, Open, State, Content}
use Rattle.protocol.specs.Marks.{flagged?, unflagged?, above?, reaches?, voter, Decided, Reached}
use Rattle.protocol.specs.Events.{after_take, after_promise, after_cut, after_learn, after_forget, after_copy, after_trim, after_open, after_issue, after_append, after_hear, after_acknowledge, after_note, after_restore, Can-copy, Can-trim, Can-open, Can-issue, Can-append, Can-hear, Can-acknowledge, Can-note, Can-restore, Step, Steps, ◌▸◌}
use Rattle.protocol.proofs.Columns.{upd_same, upd²_at, append_up}
use Rattle.protocol.proofs.Counting.{count_mono, count_split}
use Rattle.protocol.proofs.Invariant.{Inv}
use Rattle.protocol.proofs.Facts.{not_both, unrestored}

-- ---- take and open

pub take_answered : (σ : State) → Steps σ (after_take σ)
take_answered σ = Steps.none ▸ Step.take σ

pub open_answered : (σ : State) (s D a : ℕ) → Can-open σ s D a → Steps σ (after_open σ s D a)
open_answered σ s D a g = Steps.none ▸ Step.opens σ s D a g

-- "those of them reaching more, plus R minus the number known, are fewer than Q"; a restored replica "counts as absent"
pub decided : (σ : State) (s D : ℕ)
    → count (above? (voter σ s) (σ.recorded s) D) σ.R + (σ.R - count (flagged? (voter σ s)) σ.R) < σ.Q → Decided σ s D
decided σ s D h = omega (
  arith,
  count_split (flagged? (voter σ s)) (unflagged? (voter σ s)) (λ j k a. not_both k a) (λ j n. not_true (voter σ s j) n) σ.R,
)
  where
    not_true : (b : Bool) → ¬ (b ≡ true) → b ≡ false
    not_true true n = absurd (n refl)
    not_true false n = refl

-- ---- prepare

-- the message is lost, or the promise was not written; also for copy and trim where nothing was written
pub forgotten : (σ : State) (s i : ℕ) → Steps σ (after_forget σ s i)
forgotten σ s i = Steps.none ▸ Step.forget σ s i

-- the promise is written; and the log is wiped down to k
abbrev pub promised : State → ℕ → ℕ → State
promised σ s i = after_promise (after_forget σ s i) s i

abbrev pub prepared : State → ℕ → ℕ → ℕ → State
prepared σ s i k = after_cut (promised σ s i) i k

-- an unresolved replica keeps its log, if it was not restored
module _ (σ : State) (s i k : ℕ) (p : σ.phase s ≡ Opening) (below : σ.promise i ≤ s)
    (kept : σ.handed_restored s i ≡ false → σ.handed_unresolved s i ≡ true → σ.mark i ≤ k) (down : k ≤ σ.mark i) where
  pub prepare_silent : Steps σ (prepared σ s i k)
  prepare_silent = forgotten σ s i
      ▸ Step.promise (after_forget σ s i) s i (record { phase = p; below = below })
      ▸ Step.cut (promised σ s i) s i k (record {
        phase = p;
        promise = upd_same σ.promise i s;
        unknown = upd²_at σ.known s i false s i refl refl;
        kept = kept;
        down = down;
      })

  -- nothing is left above the closing mark; of a restored replica nothing above its low-water mark
  pub prepare_answered : (σ.handed_restored s i ≡ false → σ.handed_unresolved s i ≡ false → k ≤ σ.handed_closing s i)
      → (σ.handed_restored s i ≡ true → k ≤ σ.low i) → Steps σ (after_learn (prepared σ s i k) s i)
  prepare_answered whole low = prepare_silent
      ▸ Step.learn (prepared σ s i k) s i (record {
        phase = p;
        promise = upd_same σ.promise i s;
        whole = λ r e. rw (upd_same σ.mark i k) (whole r e);
        low = λ r. rw (upd_same σ.mark i k) (low r);
      })

-- ---- copy while opening, and trim

pub copy_answered : (σ : State) (s a b : ℕ) → Can-copy σ s a b → Steps σ (after_copy σ s a b)
copy_answered σ s a b g = Steps.none ▸ Step.copy σ s a b g

pub copy_silent : (σ : State) (s a b : ℕ) → Can-copy σ s a b → Steps σ (after_forget (after_copy σ s a b) s b)
copy_silent σ s a b g = copy_answered σ s a b g ▸ Step.forget (after_copy σ s a b) s b

pub trim_answered : (σ : State) (s i D k : ℕ) → Can-trim σ s i D k → Steps σ (after_trim σ s i k)
trim_answered σ s i D k g = Steps.none ▸ Step.trim σ s i D k g

pub trim_silent : (σ : State) (s i D k : ℕ) → Can-trim σ s i D k → Steps σ (after_forget (after_trim σ s i k) s i)
trim_silent σ s i D k g = trim_answered σ s i D k g ▸ Step.forget (after_trim σ s i k) s i

-- ---- issue, send, and copy while open

pub issue_answered : (σ : State) (s : ℕ) (x : Tx) (e : ℕ → ℕ) → Can-issue σ s x e → Steps σ (after_issue σ s x e)
issue_answered σ s x e g = Steps.none ▸ Step.issue σ s x e g

-- a copy by an open server writes what a send would
pub copy_is_send : (σ : State) → Inv σ → (s a b : ℕ) → σ.phase s ≡ Open → σ.member s a ≡ true → σ.promise a ≡ s
    → σ.member s b ≡ true → σ.promise b ≡ s → σ.mark b < σ.mark a → Can-append σ s b (σ.place a (suc (σ.mark b)))
copy_is_send σ I s a b p ma pa mb pb l =
    let o = I.numbers.live s p in
    let h = I.logs.prefix a s (suc (σ.mark b)) (unrestored σ I s a o ma pa) o ma (λ u o n. omega arith) l in
    record { phase = p; member = mb; promise = pb; issued = h.0; next = h.1 }

-- a mark that is reached, and the next is not, is the highest
pub highest : (σ : State) (s m : ℕ) → ¬ Reached σ s (suc m) → (n : ℕ) → Reached σ s n → n ≤ m
highest σ s m h n r = go (dec_le n m)
  where
    go : Dec (n ≤ m) → n ≤ m
    go (yes l) = l
    go (no l) = absurd (h (omega (
      arith,
      count_mono (reaches? (σ.member s) (σ.recorded s) n) (reaches? (σ.member s) (σ.recorded s) (suc m)) (λ j p. (p.0, omega (arith, p.1))) σ.R,
    )))

-- x is in the next place of i, and the server heard
abbrev pub sent : State → ℕ → ℕ → Tx → State
sent σ s i x = after_hear (after_append σ i x) s i

-- the place became valid
module _ (σ : State) (s i : ℕ) (x : Tx) (g : Can-append σ s i x) where
  pub send_answered : σ.recorded s i ≤ σ.mark i → (m : ℕ) → Can-acknowledge (sent σ s i x) s m → Steps σ (after_acknowledge (sent σ s i x) s m)
  send_answered h m c = Steps.none ▸ Step.append σ s i x g ▸ Step.hear (after_append σ i x) s i heard ▸ Step.acknowledge (sent σ s i x) s m c
    where
      heard : Can-hear (after_append σ i x) s i
      heard = record { phase = g.phase; member = g.member; promise = g.promise; up = omega (arith, append_up σ.mark i i) }

-- ---- note and restore

pub noted : (σ : State) (s i : ℕ) → Can-note σ s i → Steps σ (after_note σ s i)
noted σ s i g = Steps.none ▸ Step.note σ s i g

pub restored : (σ : State) (i : ℕ) (c : Content) → Can-restore σ c → Steps σ (after_restore σ i c)
restored σ i c g = Steps.none ▸ Step.restore σ i c g
