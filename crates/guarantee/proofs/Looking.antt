-- A message that only reads, as read and export send it: nothing is written, and the recorded mark stays. There is no event.
-- Assumes nothing.
use mathlib.Core.Path.{◌≡◌}
use mathlib.Core.Bool.{false, ◌&&◌}
use mathlib.Core.List.{List}
use Prim.Native.Nat.{ℕ}
use borrow.Author.Tests.{not-false}
use Rattle.fate.specs.declared.Fate.{Fate}
use Rattle.storage.specs.Log.{mark_of}
use Rattle.storage.specs.Operations.{medium_at}
use Rattle.protocol.specs.State as protocol
use Rattle.cluster.specs.declared.Shape.{Shape}
use Rattle.cluster.specs.declared.Server.{Server}
use Rattle.cluster.specs.State.{State, server_at, mark_at, active_at}
use Rattle.cluster.specs.Refusals.{wrong_phase, only_open, replica_out, no_slot, promise_differs, mark_differs, answered}
use Rattle.cluster.specs.Effects.{looked}
use Rattle.guarantee.specs.History.{History}
use Rattle.guarantee.proofs.Ties.{Sim}
use Rattle.guarantee.proofs.Passing.{is_open_lem}
use Rattle.guarantee.proofs.Messages.{Message, agrees, accepts}
use Rattle.guarantee.proofs.Hearing.{open_kept}

module _ (h : Shape) (x : State) (H : History) (σ : protocol.State) (S : Sim h x H σ) (s i : ℕ) (f : Fate) (given : List ℕ) (M : Message h x s i f given) where
  abbrev v : Server
  v = server_at x.records s

  abbrev m : List ℕ
  m = medium_at h.places i x.media

  -- refusals 5, 7 and 18 to 20
  pub looked_tie : wrong_phase only_open v ≡ false → replica_out v i ≡ false
      → (answered f && no_slot m) ≡ false → (answered f && promise_differs v.session m) ≡ false → (answered f && mark_differs h.places (mark_at v i) m) ≡ false
      → Sim h (looked h.places x s i f) H σ
  looked_tie phase out slot promise mark =
      record {
        R = S.R;
        Q = S.Q;
        register = S.register;
        replicas = S.replicas;
        servers =
            open_kept h x H σ S s i f given M (is_open_lem v.phase phase) (not-false (active_at v i) out)
            (mark_of h.places m) (λ a. (agrees h.places v i m (accepts h.places v x.media i f slot promise mark a)).mark);
        sessions = S.sessions;
      }
