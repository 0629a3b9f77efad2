-- `clean_flags`. The invariant: the flags below i say which replicas are clean, and the others are false.
-- Assumes nothing.
use Rattle.std.proofs.Common.{◌≡◌, false, replicate}
use Rattle.base.specs.Below.{up_to}
use Rattle.cluster.specs.Refusals.{clean_at}
use Rattle.ballot.proofs.clean_flags.Given as goal

abbrev pub invariant-loop-i : goal.invariant-loop-i
invariant-loop-i l = l.clean ≡ up_to (clean_at l.server l.mark) (replicate 7 false) l.i
