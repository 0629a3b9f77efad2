-- restore: the replica gets what it held at an earlier moment, with the raised session as promise, and its entry is restored. No server's record changes.
-- Assumes nothing.
use mathlib.Core.Path.{◌≡◌, refl, sym, ap, ◌∙◌}
use mathlib.Core.Logic.{◌≢◌}
use mathlib.Core.Bool.{true, false, true≢false}
use mathlib.Core.List.{List}
use mathlib.Core.Option.{Option}
use Prim.Native.Nat.{ℕ, suc, ◌+◌, ◌^◌, ◌<◌}
use native.Mathlib.Omega.{arith}
use lib.ListN.{length, length-set}
use borrow.Author.Tests.{eqb-false, leb-false}
use Rattle.storage.specs.Operations.{medium_at}
use Rattle.protocol.specs.State as protocol
use Rattle.protocol.specs.Columns.{upd}
use Rattle.protocol.specs.Events.{after_restore}
use Rattle.protocol.proofs.Columns.{upd_at, upd_same, upd_other}
use Rattle.protocol.proofs.Traces.{restored}
use Rattle.cluster.specs.declared.Closing.TheVariants.{Mark}
use Rattle.cluster.specs.declared.Entry.{Entry}
use Rattle.cluster.specs.declared.Shape.{Shape}
use Rattle.cluster.specs.declared.Register.{Register}
use Rattle.cluster.specs.declared.Call.TheVariants as call
use Rattle.cluster.specs.State.{State, fresh_entry, entry_at, is_restored}
use Rattle.cluster.specs.Effects.{Result, restored_medium, restored_entry, restored_register, restore_effect}
use Rattle.guarantee.specs.History.{Element, Transaction, History, set_at, with_standing, told, next}
use Rattle.guarantee.proofs.Ties.{Sim, Backed, ReplicaTie, RegisterTie, is_unresolved, content_of, copy_of}
use Rattle.guarantee.proofs.Sessions.{set_at_same, set_at_other}
use Rattle.guarantee.proofs.Registers.{raises}
use Rattle.guarantee.proofs.Passing.{step_passes}
use Rattle.guarantee.proofs.Frames.{set_elim, replica_frame}
use Rattle.guarantee.proofs.Facts.{at_most_seven}
use Rattle.guarantee.proofs.Restoring.{restored_tie}
use Rattle.guarantee.proofs.Played.{with_call_lem, Before, Played}

module _ (h : Shape) (x : State) (H : History) (σ : protocol.State) (beside : Element) (i : ℕ)
    (B : Before h x H σ (with_call_lem (call.Restore i) beside)) where
  S : Sim h x H σ
  S = B.sim

  abbrev g : Register
  g = x.records.register

  l : i < h.replicas
  l = leb-false h.replicas i (B.passed 4)

  -- what the replica held at the moment named
  abbrev m : List ℕ
  m = medium_at h.places i (H.past beside.moment).media

  abbrev standing : ℕ → Option Transaction
  standing = (H.past beside.moment).standing i

  W : Backed h.places m standing σ
  W = B.past beside.moment i l

  abbrev τ : protocol.State
  τ = after_restore σ i (content_of W.copy)

  abbrev z : ℕ
  z = suc σ.session

  same_session : g.session + 1 ≡ z
  same_session = omega (arith, S.register.session)

  fits : g.session + 1 < 2 ^ 64
  fits = omega (arith, S.register.fits, eqb-false (g.session + 1) (2 ^ 64) (B.passed 21))

  -- ---- the register

  abbrev new : Entry
  new = restored_entry (entry_at g.entries i)

  room : i < length g.entries
  room = omega (arith, l, at_most_seven h B.range, S.register.size)

  -- the entry of i is not unresolved, and is not asked to be
  not_restored : (j : ℕ) → i ≡ j → upd σ.restored i true j ≡ false → ⊥
  not_restored j e q = true≢false (sym (upd_at σ.restored i true j e) ∙ q)

  register : RegisterTie h.replicas (restored_register g i) z σ.unresolved σ.closing (upd σ.restored i true) σ.opened
  register =
      let r = S.register in
      record {
        session = same_session;
        fits = fits;
        size = length-set g.entries i new ∙ r.size;
        restored = λ j k.
            set_elim (λ (e : Entry). is_restored e.closing ≡ upd σ.restored i true j) g.entries i new j fresh_entry room
            (λ e. sym (upd_at σ.restored i true j e)) (λ n. r.restored j k ∙ sym (upd_other σ.restored i true j n));
        unresolved = λ j k u.
            set_elim (λ (e : Entry). is_unresolved e.closing ≡ σ.unresolved j) g.entries i new j fresh_entry room
            (λ e. absurd (not_restored j e u)) (λ n. r.unresolved j k (sym (upd_other σ.restored i true j n) ∙ u));
        closing = λ j c k.
            set_elim (λ (e : Entry). e.closing ≡ Mark c → σ.closing j ≡ c) g.entries i new j fresh_entry room
            (λ e q. let z : ◌≡◌ {A = ℕ} 0 1 = cc in absurd (omega arith)) (λ n. r.closing j c k);
        entry = λ j k.
            set_elim (λ (e : Entry). σ.opened e.session ≡ true) g.entries i new j fresh_entry room
            (λ e. r.entry i l) (λ n. r.entry j k);
      }

  -- ---- the replicas

  others : (j : ℕ) → i ≢ j → copy_of τ j ≡ copy_of σ j
  others j n =
      rw (
        upd_other σ.promise i z j n,
        upd_other σ.mark i W.copy.mark j n,
        upd_other σ.place i W.copy.place j n,
        upd_other σ.low i W.copy.low j n,
      )

  written : ReplicaTie h.places (restored_medium (g.session + 1) m) (set_at H.standing i standing i) (copy_of τ i)
  written =
      rw (
        set_at_same H.standing i standing,
        upd_same σ.promise i z,
        upd_same σ.mark i W.copy.mark,
        upd_same σ.place i W.copy.place,
        upd_same σ.low i W.copy.low,
        same_session,
      )
      (restored_tie h.places m standing W.copy W.tie z (omega (arith, fits, same_session)))

  restored_sim : Sim h (restore_effect h.places x i m).state (with_standing H i standing) τ
  unfolding restore_effect
  restored_sim =
      record {
        R = S.R;
        Q = S.Q;
        register = register;
        replicas =
            replica_frame h.replicas h.places x.media H.standing (copy_of σ) S.replicas i l (restored_medium (g.session + 1) m)
            (set_at H.standing i standing) (copy_of τ) (λ j n. set_at_other H.standing i standing j n) others written;
        servers = S.servers;
        sessions = S.sessions;
      }

  -- The bytes are those of that moment: the call is not declined, and changes the register.
  bytes : beside.input.backup ≡ m
  unfolding next restore_effect
  bytes =
      let p = (with_call_lem (call.Restore i) beside).input in
      let q = ap (λ (r : Result). r.state.records.register) (step_passes h x p B.passes) in
      (B.covered.restores i refl (rw q (raises g (restored_register g i) (λ e. omega (arith, e))))).1

  pub restore_played : Played h x H σ (with_call_lem (call.Restore i) beside)
  unfolding told
  restore_played = rw bytes (τ, restored σ i (content_of W.copy) W.can, restored_sim)
