-- A SESSION ISSUES K IDS AT MOST, the statement: after every list of calls, an ID that an issue answers lies above the starting mark of the session
-- that the server's last take answered, and at most K above it. Document 02, No. 1: "Once issued exceeds the starting mark by K, the server must open
-- a new session before issuing again". A session issues an ID once (Once.antt), so that its log holds K records of its own at most.
-- proofs/Interval.antt has the theorem: `interval : Interval`.
-- Assumes nothing.
use Rattle.std.specs.Prelude.{◌≡◌, List, ◌∷◌, ℕ, ◌+◌, ◌≤◌, ◌<◌}
use Rattle.cluster.specs.declared.Shape.{Shape}
use Rattle.cluster.specs.declared.Request.{Request}
use Rattle.cluster.specs.declared.Call.TheVariants as call
use Rattle.cluster.specs.State.{State}
use Rattle.cluster.specs.Refusals.{Input}
use Rattle.cluster.specs.Replies.{ok}
use Rattle.cluster.specs.Step.{step}
use Rattle.guarantee.specs.History.{Element, History, with_call, beginning, along}
use Rattle.guarantee.specs.Guarantee.{InRange, CoveredAll}

-- an issue call made in state x after history H, and the ID that it answers
abbrev pub Within : Shape → State → History → Type 0
Within h x H =
    (s n : ℕ) (q : Request) (arguments : Input) (vs : List ℕ) → (step h x (with_call (call.Issue s q) arguments)).reply ≡ ok (n ∷ vs)
    → let start = (H.sessions (H.current s)).start in
    (start < n) × (n ≤ start + h.interval)

abbrev pub Interval : Type 0
Interval = (h : Shape) → InRange h → (es : List Element) → CoveredAll h (beginning h) es
    → Within h (along h (beginning h) es).state (along h (beginning h) es).history
