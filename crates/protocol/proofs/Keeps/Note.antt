-- note keeps the invariant: a member that still promises the session was not restored since, holds a part of its log, and so up to its starting mark
-- what it started with.
-- Assumes nothing.
use mathlib.Core.Path.{◌≡◌}
use mathlib.Core.Bool.{true, false}
use Prim.Native.Nat.{ℕ}
use native.Mathlib.Omega.{arith}
use Rattle.protocol.specs.State.{State}
use Rattle.protocol.specs.Events.{Can-note, after_note, Saved}
use Rattle.protocol.proofs.Columns.{upd_elim}
use Rattle.protocol.proofs.Invariant.{Inv}
use Rattle.protocol.proofs.Facts.{unrestored}

module _ (σ : State) (I : Inv σ) (s i : ℕ) (g : Can-note σ s i) where
  opened : σ.opened s ≡ true
  opened = I.numbers.live s g.phase

  unrestored_here : σ.restored i ≡ false
  unrestored_here = unrestored σ I s i opened g.member g.promise

  -- what j holds is right with x as its low-water mark
  abbrev Holding : ℕ → ℕ → Type 0
  Holding j x = Saved σ.opened σ.start σ.log (σ.promise j) (record { mark = σ.mark j; place = σ.place j; low = x })

  -- i holds what the session started with
  noted : Holding i (σ.start s)
  noted = record {
    session = s;
    below = omega (arith, g.promise);
    «open» = opened;
    within = omega arith;
    agrees = λ n l h. (I.logs.prefix i s n unrestored_here opened g.member (λ u o k. omega (arith, g.promise)) l).1;
  }

  pub note_inv : Inv (after_note σ s i)
  note_inv = record {
    quorum = I.quorum;
    numbers = I.numbers;
    taken = I.taken;
    known = I.known;
    chain = I.chain;
    acks = I.acks;
    logs = I.logs;
    heard = I.heard;
    lows = λ j. upd_elim (λ (x : ℕ). Holding j x) σ.low i _ j (λ e. rw (← e) noted) (λ n. I.lows j);
    votes = I.votes;
    locks = I.locks;
  }
