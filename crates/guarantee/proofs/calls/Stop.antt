-- stop: the server becomes idle, and is tied to nothing.
-- Assumes nothing.
use Prim.Native.Nat.{ℕ}
use lib.ListN.{set}
use Rattle.protocol.specs.State as protocol
use Rattle.protocol.specs.Events.{Steps}
use Rattle.cluster.specs.declared.Shape.{Shape}
use Rattle.cluster.specs.declared.Call.TheVariants as call
use Rattle.cluster.specs.State.{State, idle_server}
use Rattle.cluster.specs.Effects.{stop_effect}
use Rattle.guarantee.specs.History.{Element, History, told}
use Rattle.guarantee.proofs.Passing.{below_four}
use Rattle.guarantee.proofs.Ties.{row_of, ServersTie, Sim}
use Rattle.guarantee.proofs.Frames.{elsewhere, idle_frame}
use Rattle.guarantee.proofs.Played.{with_call_lem, Before, Played}

module _ (h : Shape) (x : State) (H : History) (σ : protocol.State) (beside : Element) (s : ℕ)
    (B : Before h x H σ (with_call_lem (call.Stop s) beside)) where
  S : Sim h x H σ
  S = B.sim

  T : ServersTie h.replicas (set x.records.servers s idle_server) x.tables H.current (row_of σ)
  T =
      let l = below_four s (B.passed 3) in
      idle_frame _ _ _ _ _ S.servers s l H.current (row_of σ) (elsewhere _ _ _ _ _ S.servers s l)

  stopped : Sim h (stop_effect x s).state H σ
  unfolding stop_effect
  stopped = record { R = S.R; Q = S.Q; register = S.register; replicas = S.replicas; servers = T; sessions = S.sessions }

  pub stop_played : Played h x H σ (with_call_lem (call.Stop s) beside)
  unfolding stop_effect told
  stop_played = (σ, Steps.none, stopped)
