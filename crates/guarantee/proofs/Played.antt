-- What each call's proof is given, and what it has to show: a file of calls/ for each.
-- Assumes nothing.
use Rattle.protocol.specs.State as protocol
use Rattle.protocol.proofs.Invariant.{Inv}
use Rattle.cluster.specs.declared.Shape.{Shape}
use Rattle.cluster.specs.declared.Call.{Call}
use Rattle.cluster.specs.State.{State}
use Rattle.cluster.specs.Step.{effect}
use Rattle.guarantee.specs.History.{Element, History, with_call, told}
use Rattle.guarantee.specs.Guarantee.{InRange, Covered}
use Rattle.guarantee.proofs.Ties.{Sim, Past, Goes}
use Rattle.guarantee.proofs.Passing.{Passes, Passed}

-- the element e of the list, with this call
abbrev pub with_call_lem : Call → Element → Element
with_call_lem c e = record { input = with_call c e.input; reader = e.reader; moment = e.moment }

-- the state and the history before a call that is not declined
pub record Before (h : Shape) (x : State) (H : History) (σ : protocol.State) (e : Element) : Type 0 where
  pub range : InRange h
  pub sim : Sim h x H σ
  pub inv : Inv σ
  pub passes : Passes h x e.input
  pub passed : Passed h x e.input
  pub covered : Covered h (record { state = x; history = H }) e
  pub past : Past h H.past σ

-- what it leaves is reached by a list of events
abbrev pub Played : Shape → State → History → protocol.State → Element → Type 0
Played h x H σ e =
    let r = effect h x e.input e.input.call in
    Goes h σ r.state (told h x e r H e.input.call)
