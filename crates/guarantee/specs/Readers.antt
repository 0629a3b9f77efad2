-- WHO IS DECLINED BY 15 HAS SOMETHING LEFT TO READ OR TO WAIT FOR, the statement: after every list of calls, the estimate that an issue is given with
-- 15 lies above its client's mark and not above what the server has issued. A client that has read all that is acknowledged is declined by 15 only for
-- a record in flight, of which there are seven at most then; and one that has read all that is issued is not declined by 15, whichever locks it names.
-- This ends what document 02, No. 2, complains of: "A depot that has consumed every transaction is still turned down on a lock whose last writer it
-- has seen, and on an empty log no lock can be had." Since No. 5 a lock's last writer may not be acknowledged yet: its next writer waits until it is
-- (cluster proofs/InFlight `settled`). A table that is handed in, and that no list of calls leaves, may hold anything. proofs/Readers.antt has the
-- theorem: `readers : Readers`.
-- Assumes nothing.
use Rattle.std.specs.Prelude.{◌≡◌, List, [], ◌∷◌, ℕ, ◌+◌, ◌≤◌, ◌<◌}
use Rattle.cluster.specs.declared.Shape.{Shape}
use Rattle.cluster.specs.declared.Request.{Request}
use Rattle.cluster.specs.declared.Call.TheVariants as call
use Rattle.cluster.specs.State.{State, window, server_at}
use Rattle.cluster.specs.Refusals.{Input}
use Rattle.cluster.specs.Replies.{Reply, no}
use Rattle.cluster.specs.Step.{step}
use Rattle.guarantee.specs.History.{Element, with_call, beginning, along}
use Rattle.guarantee.specs.Guarantee.{InRange, CoveredAll}

-- what an issue to server s replies in state x
abbrev pub replied : Shape → State → ℕ → Request → Input → Reply
replied h x s q arguments = (step h x (with_call (call.Issue s q) arguments)).reply

-- what is given with 15 is a lock, and an ID above the client's mark and at most the server's issued mark; fewer than eight are unacknowledged
abbrev pub Unread : Shape → State → Type 0
Unread h x =
    (s : ℕ) (q : Request) (arguments : Input) (values : List ℕ)
    → replied h x s q arguments ≡ no 15 values
    → let v = server_at x.records s in
    (k : ℕ) × (e : ℕ) × (values ≡ k ∷ e ∷ []) × (q.mark < e) × (e ≤ v.issued) × (v.issued < v.acked + window)

-- a client that has read all that is acknowledged: what is given with 15 is in flight
abbrev pub Waiting : Shape → State → Type 0
Waiting h x =
    (s : ℕ) (q : Request) (arguments : Input) (values : List ℕ)
    → let v = server_at x.records s in
    v.acked ≤ q.mark
    → replied h x s q arguments ≡ no 15 values
    → (k : ℕ) × (e : ℕ) × (values ≡ k ∷ e ∷ []) × (v.acked < e) × (e ≤ v.issued)

-- a client that has read all that is issued is not declined by 15
abbrev pub Unlocked : Shape → State → Type 0
Unlocked h x =
    (s : ℕ) (q : Request) (arguments : Input) (values : List ℕ)
    → (server_at x.records s).issued ≤ q.mark
    → ¬ (replied h x s q arguments ≡ no 15 values)

abbrev pub Readers : Type 0
Readers = (h : Shape) → InRange h → (es : List Element) → CoveredAll h (beginning h) es
    → let x = (along h (beginning h) es).state in
    Unread h x × Waiting h x × Unlocked h x
