-- read: a message that only reads (Looking). There is no event.
-- Assumes nothing.
use mathlib.Core.Path.{refl}
use mathlib.Core.List.{List}
use Prim.Native.Nat.{ℕ}
use Rattle.fate.specs.declared.Fate.{Fate}
use Rattle.protocol.specs.State as protocol
use Rattle.protocol.specs.Events.{Steps}
use Rattle.cluster.specs.declared.Shape.{Shape}
use Rattle.cluster.specs.declared.Call.TheVariants as call
use Rattle.cluster.specs.State.{State}
use Rattle.cluster.specs.Effects.{read_effect}
use Rattle.guarantee.specs.History.{Element, History, told}
use Rattle.guarantee.proofs.Passing.{below_four}
use Rattle.guarantee.proofs.Messages.{Message, message_of}
use Rattle.guarantee.proofs.Looking.{looked_tie}
use Rattle.guarantee.proofs.Played.{with_call_lem, Before, Played}

module _ (h : Shape) (x : State) (H : History) (σ : protocol.State) (beside : Element) (s i n : ℕ) (f : Fate)
    (B : Before h x H σ (with_call_lem (call.Read s i n f) beside)) where
  abbrev given : List ℕ
  given = beside.input.given

  M : Message h x s i f given
  M =
      message_of h x s i f given B.range (B.covered.fits.given refl) (B.passed 2) (below_four s (B.passed 3)) (B.passed 4) (B.passed 6)

  pub read_played : Played h x H σ (with_call_lem (call.Read s i n f) beside)
  unfolding told read_effect
  read_played = (σ, Steps.none, looked_tie h x H σ B.sim s i f given M (B.passed 5) (B.passed 7) (B.passed 18) (B.passed 19) (B.passed 20))
