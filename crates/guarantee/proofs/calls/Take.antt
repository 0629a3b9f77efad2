-- take: the server gets the next session. Where the answer is lost the server is idle, and nobody is in that session.
-- Assumes nothing.
use mathlib.Core.Path.{◌≡◌, refl, sym, ◌∙◌, subst}
use mathlib.Core.Logic.{◌≢◌}
use mathlib.Core.Bool.{Bool, true, false, true≢false, false≢true}
use Prim.Native.Nat.{ℕ, suc, ◌+◌, ◌^◌, ◌<◌}
use native.Mathlib.Omega.{arith}
use lib.ListN.{get_or, replicate, get_or-replicate}
use borrow.Author.Tests.{eqb-false}
use Rattle.fate.specs.declared.Fate.{Fate}
use Rattle.fate.specs.declared.Fate.TheVariants.{Answered, Lost, AnswerLost, Cut}
use Rattle.protocol.specs.State as protocol
use Rattle.protocol.specs.Events.{after_take, Steps}
use Rattle.protocol.proofs.Columns.{upd_same, upd_other}
use Rattle.protocol.proofs.Traces.{take_answered}
use Rattle.cluster.specs.declared.Shape.{Shape}
use Rattle.cluster.specs.declared.Register.{Register}
use Rattle.cluster.specs.declared.Server.{Server}
use Rattle.cluster.specs.declared.Call.TheVariants as call
use Rattle.cluster.specs.State.{State, idle_server}
use Rattle.cluster.specs.Refusals.{session_at_top}
use Rattle.cluster.specs.Effects.{with_register_and_server, raised_session, opening_server, take_effect}
use Rattle.guarantee.specs.History.{Element, History, set_at, with_current, told}
use Rattle.guarantee.proofs.Passing.{below_four}
use Rattle.guarantee.proofs.Sessions.{set_at_same, set_at_other}
use Rattle.guarantee.proofs.Ties.{row_of, OpeningTie, RegisterTie, Sim}
use Rattle.guarantee.proofs.Frames.{Elsewhere, server_frame, idle_frame}
use Rattle.guarantee.proofs.Facts.{at_most_seven, next_alone}
use Rattle.guarantee.proofs.Played.{with_call_lem, Before, Played}

module _ (h : Shape) (x : State) (H : History) (σ : protocol.State) (beside : Element) (s : ℕ) (f : Fate)
    (B : Before h x H σ (with_call_lem (call.Take s f) beside)) where
  S : Sim h x H σ
  S = B.sim

  abbrev g : Register
  g = x.records.register

  abbrev τ : protocol.State
  τ = after_take σ

  abbrev z : ℕ
  z = suc σ.session

  -- ---- the message does not arrive, or the register declines it

  lost : (c : ℕ) → Sim h (with_register_and_server x s g idle_server) (with_current H s c) σ
  lost c =
      record {
        R = S.R;
        Q = S.Q;
        register = S.register;
        replicas = S.replicas;
        servers =
            idle_frame _ _ _ _ _ S.servers s (below_four s (B.passed 3)) (set_at H.current s c) (row_of σ)
            (record { size = S.servers.tables_size; table = λ t k d. refl; take = λ t d. set_at_other H.current s c t d; row = λ t k d a. refl });
        sessions = S.sessions;
      }

  -- ---- it arrives

  module _ (top : session_at_top g.session ≡ false) where
    register : RegisterTie h.replicas (raised_session g) z σ.unresolved σ.closing σ.restored σ.opened
    register =
        let r = S.register in
        record {
          session = omega (arith, r.session);
          fits = omega (arith, r.fits, eqb-false (g.session + 1) (2 ^ 64) top);
          size = r.size;
          restored = r.restored;
          unresolved = r.unresolved;
          closing = r.closing;
          entry = r.entry;
        }

    -- the other rows
    rows : (u : ℕ) → z ≢ u → row_of τ u ≡ row_of σ u
    rows u d =
        rw (
          upd_other σ.phase z protocol.Opening u d,
          upd_other σ.handed_unresolved z σ.unresolved u d,
          upd_other σ.handed_closing z σ.closing u d,
          upd_other σ.handed_restored z σ.restored u d,
        )

    off : (c : ℕ) → Elsewhere x.records.servers x.tables x.tables H.current (set_at H.current s c) (row_of σ) (row_of τ) s
    off c =
        record {
          size = S.servers.tables_size;
          table = λ t k d. refl;
          take = λ t d. set_at_other H.current s c t d;
          row = λ t k d a. rows _ (next_alone h x H σ S B.inv s t k d a);
        }

    unanswered : (c : ℕ) → Sim h (with_register_and_server x s (raised_session g) idle_server) (with_current H s c) τ
    unanswered c =
        record {
          R = S.R;
          Q = S.Q;
          register = register;
          replicas = S.replicas;
          servers = idle_frame _ _ _ _ _ S.servers s (below_four s (B.passed 3)) (set_at H.current s c) (row_of τ) (off c);
          sessions = S.sessions;
        }

    -- the server knows nobody
    nobody : (i : ℕ) → i < h.replicas → get_or (replicate 7 false) i false ≡ false
    nobody i l = get_or-replicate 7 i false false (omega (arith, at_most_seven h B.range))

    abbrev w : Server
    w = opening_server (raised_session g)

    in_z : w.session ≡ z
    in_z = omega (arith, S.register.session)

    opening : OpeningTie h.replicas w (row_of τ z)
    opening =
        rw (
          upd_same σ.phase z protocol.Opening,
          upd_same σ.handed_unresolved z σ.unresolved,
          upd_same σ.handed_closing z σ.closing,
          upd_same σ.handed_restored z σ.restored,
        )
        (record {
          phase = refl;
          restored = S.register.restored;
          unresolved = S.register.unresolved;
          closing = S.register.closing;
          known = λ i l. rw (nobody i l) (sym (B.inv.known.nobody z i (omega arith)));
          recorded = λ i l e. absurd (false≢true (sym (B.inv.known.nobody z i (omega arith)) ∙ e));
        })

    answered : Sim h (with_register_and_server x s (raised_session g) w) (with_current H s (g.session + 1)) τ
    answered =
        record {
          R = S.R;
          Q = S.Q;
          register = register;
          replicas = S.replicas;
          servers =
              server_frame _ _ _ _ _ S.servers s (below_four s (B.passed 3)) w x.tables (set_at H.current s (g.session + 1)) (row_of τ) (off (g.session + 1))
              (λ a. rw in_z (next_alone h x H σ S B.inv s))
              (record {
                sized = record { known = refl; dropped = refl; marks = refl; held = refl };
                current = λ a. set_at_same H.current s (g.session + 1);
                opening = λ p. subst (λ (u : ℕ). OpeningTie h.replicas w (row_of τ u)) (sym in_z) opening;
                serving = λ p. let e : ◌≡◌ {A = ℕ} 0 1 = cc in absurd (omega arith);
              });
          sessions = S.sessions;
        }

pub take_played : (h : Shape) (x : State) (H : History) (σ : protocol.State) (beside : Element) (s : ℕ) (f : Fate)
    → Before h x H σ (with_call_lem (call.Take s f) beside) → Played h x H σ (with_call_lem (call.Take s f) beside)
unfolding take_effect told
take_played h x H σ beside s Answered B =
    rw (B.passed 21) (after_take σ, take_answered σ, answered h x H σ beside s Answered B (B.passed 21))
take_played h x H σ beside s Lost B = (σ, Steps.none, lost h x H σ beside s Lost B (H.current s))
take_played h x H σ beside s AnswerLost B = go (session_at_top x.records.register.session) refl
  where
    go : (b : Bool) → session_at_top x.records.register.session ≡ b
        → Played h x H σ (with_call_lem (call.Take s AnswerLost) beside)
    go true e = rw e (σ, Steps.none, lost h x H σ beside s AnswerLost B (H.current s))
    go false e = rw e (after_take σ, take_answered σ, unanswered h x H σ beside s AnswerLost B e (H.current s))
take_played h x H σ beside s (Cut w l) B = absurd (true≢false (B.passed 6))
