-- OF SESSIONS NOTHING IS WRITTEN OVER, the statement, which proofs/Once.antt proves: one is opened once, with nothing issued in it before, and it
-- issues an ID once. proofs/Once.antt has the theorem: `once : Once`.
-- Assumes nothing.
use Rattle.std.specs.Prelude.{◌≡◌, true, List, ◌∷◌, ℕ}
use Rattle.std.proofs.Math.Option.{none}
use Rattle.fate.specs.declared.Fate.{Fate}
use Rattle.cluster.specs.declared.Shape.{Shape}
use Rattle.cluster.specs.declared.Request.{Request}
use Rattle.cluster.specs.declared.Call.TheVariants as call
use Rattle.cluster.specs.State.{State}
use Rattle.cluster.specs.Refusals.{Input}
use Rattle.cluster.specs.Replies.{ok}
use Rattle.cluster.specs.Step.{step}
use Rattle.guarantee.specs.Registers.{changed}
use Rattle.guarantee.specs.History.{Element, History, beginning, along, unopened as new-session}
use Rattle.guarantee.specs.Guarantee.{InRange, CoveredAll}

-- of a call with arguments p, made in state x after history H
pub record New (h : Shape) (x : State) (H : History) (p : Input) : Type 0 where
  -- where it opens a session, the session was not opened, and nothing was issued or acknowledged in it
  pub opens : (s : ℕ) (f : Fate) → p.call ≡ call.Open s f → changed x.records.register (step h x p).state.records.register ≡ true
      → H.sessions (H.current s) ≡ new-session
  -- where it issues a record, there was none under this ID
  pub issues : (s n : ℕ) (q : Request) (vs : List ℕ) → p.call ≡ call.Issue s q → (step h x p).reply ≡ ok (n ∷ vs)
      → (H.sessions (H.current s)).issues n ≡ none

-- after every list of calls
abbrev pub Once : Type 0
Once = (h : Shape) → InRange h → (es : List Element) → CoveredAll h (beginning h) es
    → (p : Input) → New h (along h (beginning h) es).state (along h (beginning h) es).history p
