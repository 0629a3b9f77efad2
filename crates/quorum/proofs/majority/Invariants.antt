-- `quorum::majority` meets its contract. The loop's invariant: best is the highest backed mark of the replicas below i.
-- Assumes nothing.
use mathlib.Core.Path.{◌≡◌}
use Rattle.base.specs.Below.{highest}
use Rattle.quorum.specs.Vote.{flags_of, marks_of, backed}
use Rattle.quorum.proofs.majority.Given as goal

abbrev pub invariant-loop-i : goal.invariant-loop-i
invariant-loop-i l = l.best ≡ highest (backed (flags_of l.known) (marks_of l.marks) l.r) l.i
