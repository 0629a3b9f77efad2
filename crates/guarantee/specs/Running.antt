-- The running code and the list of the guarantee: who starts with the state that `fresh::start` leaves, and for each call of a list takes the state
-- that `apply` leaves, has at each point the state of `along`. The contract of fresh::start is `.. ≡ fresh shape` (crates/fresh), that of apply
-- `result_of .. ≡ step shape state input` (crates/journal), for every input; `Run` is what they give of a list. The statement is of lists of any
-- length; proofs/Running.antt has the theorems: `runs : Statement`, `runs_items : StatementItems`.
-- Assumes nothing.
use Rattle.std.specs.Prelude.{◌≡◌, List, [], ◌∷◌}
use Rattle.cluster.specs.declared.Shape.{Shape}
use Rattle.cluster.specs.State.{State, fresh}
use Rattle.cluster.specs.Effects.{Result}
use Rattle.cluster.specs.Step.{step}
use Rattle.recovery.specs.Recovery.{Trail, recovered}
use Rattle.guarantee.specs.History.{Element, beginning, along}
use Rattle.guarantee.specs.Recoveries.{Item, one, recovery, along_items}

-- from the state x a list of calls is run and leaves y: each call's result is the one that apply's contract gives for the state before it
abbrev pub Run : Shape → State → List Element → State → Type 0
Run h x [] y = x ≡ y
Run h x (e ∷ es) y = (r : Result) × (r ≡ step h x e.input) × Run h r.state es y

abbrev pub Statement : Type 0
Statement = (h : Shape) (es : List Element) (x y : State) → x ≡ fresh h → Run h x es y → y ≡ (along h (beginning h) es).state

-- ---- with recoveries

-- Who runs the driver for a recovery of the list has the states of `along_items`: `runs_items`. Its contract gives for every recovery what crate recovery
-- defines, `.. ≡ recovered shape state recovery` (crates/driver).
abbrev pub RunItems : Shape → State → List Item → State → Type 0
RunItems h x [] y = x ≡ y
RunItems h x (one e ∷ is) y = (r : Result) × (r ≡ step h x e.input) × RunItems h r.state is y
RunItems h x (recovery d a ∷ is) y = (t : Trail) × (t ≡ recovered h x d) × RunItems h t.state is y

abbrev pub StatementItems : Type 0
StatementItems = (h : Shape) (is : List Item) (x y : State) → x ≡ fresh h → RunItems h x is y → y ≡ (along_items h (beginning h) is).state
