-- `quorum::reach_count` meets its contract. The loop's invariant: n is the count over the replicas below i.
-- Assumes nothing.
use Prim.Native.Nat.{suc}
use mathlib.Core.Path.{◌≡◌}
use mathlib.Core.Bool.{cond}
use Rattle.quorum.specs.Vote.{flags_of, marks_of, reach}
use Rattle.quorum.proofs.reach_count.Given as goal

abbrev pub invariant-loop-i : goal.invariant-loop-i
invariant-loop-i l = l.n ≡ reach (flags_of l.known) (marks_of l.marks) l.i (cond l.strict (suc l.m) l.m)
