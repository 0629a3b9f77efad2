-- reassign: the generation is tied to nothing.
-- Assumes nothing.
use Rattle.protocol.specs.State as protocol
use Rattle.protocol.specs.Events.{Steps}
use Rattle.cluster.specs.declared.Shape.{Shape}
use Rattle.cluster.specs.declared.Call.TheVariants as call
use Rattle.cluster.specs.State.{State}
use Rattle.cluster.specs.Effects.{reassign_effect}
use Rattle.guarantee.specs.History.{Element, History, told}
use Rattle.guarantee.proofs.Ties.{RegisterTie, Sim}
use Rattle.guarantee.proofs.Played.{with_call_lem, Before, Played}

module _ (h : Shape) (x : State) (H : History) (σ : protocol.State) (beside : Element)
    (B : Before h x H σ (with_call_lem call.Reassign beside)) where
  S : Sim h x H σ
  S = B.sim

  register : RegisterTie h.replicas (reassign_effect x).state.records.register σ.session σ.unresolved σ.closing σ.restored σ.opened
  unfolding reassign_effect
  register =
      let g = S.register in
      record {
        session = g.session;
        fits = g.fits;
        size = g.size;
        restored = g.restored;
        unresolved = g.unresolved;
        closing = g.closing;
        entry = g.entry;
      }

  reassigned : Sim h (reassign_effect x).state H σ
  unfolding reassign_effect
  reassigned =
      record { R = S.R; Q = S.Q; register = register; replicas = S.replicas; servers = S.servers; sessions = S.sessions }

  pub reassign_played : Played h x H σ (with_call_lem call.Reassign beside)
  unfolding reassign_effect told
  reassign_played = (σ, Steps.none, reassigned)
