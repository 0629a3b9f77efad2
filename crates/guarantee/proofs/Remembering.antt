-- What no call changes in a history: how many calls came before it, and the moments up to it. Only the count behind the call adds to them.
-- Assumes nothing.
use mathlib.Core.Path.{◌≡◌, refl}
use mathlib.Core.Bool.{Bool, true, false, cond}
use mathlib.Core.Option.{Option}
use Prim.Native.Nat.{ℕ}
use Rattle.cluster.specs.declared.Shape.{Shape}
use Rattle.cluster.specs.declared.Call.{Call}
use Rattle.cluster.specs.declared.Call.TheVariants as call
use Rattle.cluster.specs.State.{State}
use Rattle.cluster.specs.Replies.{Reply, ok, no, silent}
use Rattle.cluster.specs.Effects.{Result}
use Rattle.cluster.specs.Step.{step}
use Rattle.guarantee.specs.Registers.{changed}
use Rattle.guarantee.specs.History.{Element, Logged, History, stands, starting_mark, opened_at, told, heard, counted, Moment, next}

pub record Remembered (H K : History) : Type 0 where
  pub calls : K.calls ≡ H.calls
  pub past : K.past ≡ H.past

either : (b : Bool) (H : History) (s d : ℕ) (starting : ℕ → Option Logged) → Remembered H (cond b (opened_at H s d starting) H)
either true H s d starting = record { calls = refl; past = refl }
either false H s d starting = record { calls = refl; past = refl }

pub remembered : (h : Shape) (x : State) (e : Element) (r : Result) (H : History) (c : Call) → Remembered H (told h x e r H c)
unfolding told
remembered h x e r H (call.Take s f) = record { calls = refl; past = refl }
remembered h x e r H (call.Prepare s i f) = record { calls = refl; past = refl }
remembered h x e r H (call.Copy s a b f) = record { calls = refl; past = refl }
remembered h x e r H (call.Trim s i f) = record { calls = refl; past = refl }
remembered h x e r H (call.Open s f) =
    either (changed x.records.register r.state.records.register) H (H.current s) (starting_mark h x e.input s)
    (stands h.places x H e.reader)
remembered h x e r H (call.Issue s q) = record { calls = refl; past = refl }
remembered h x e r H (call.Send s i f) = record { calls = refl; past = refl }
remembered h x e r H (call.Note s i f) = record { calls = refl; past = refl }
remembered h x e r H (call.Read s i n f) = record { calls = refl; past = refl }
remembered h x e r H (call.Export s i f) = record { calls = refl; past = refl }
remembered h x e r H (call.Stop s) = record { calls = refl; past = refl }
remembered h x e r H call.Reassign = record { calls = refl; past = refl }
remembered h x e r H (call.Restore i) = record { calls = refl; past = refl }

heard_remembered : (r : Reply) (H K : History) → Remembered H K → Remembered H (heard r H K)
unfolding heard
heard_remembered (ok vs) H K m = m
heard_remembered silent H K m = m
heard_remembered (no n vs) H K m = record { calls = refl; past = refl }

-- a call counts as one and leaves a moment, declined or not
pub record Counted (h : Shape) (m : Moment) (e : Element) : Type 0 where
  pub history : History
  pub remembers : Remembered m.history history
  pub result : let y = (step h m.state e.input).state in next h m e ≡ record { state = y; history = counted y.media history }

pub counts : (h : Shape) (m : Moment) (e : Element) → Counted h m e
unfolding next
counts h m e =
    let r = step h m.state e.input in
    let H = m.history in
    let K = told h m.state e r H e.input.call in
    record {
      history = heard r.reply H K;
      remembers = heard_remembered r.reply H K (remembered h m.state e r H e.input.call);
      result = refl;
    }
