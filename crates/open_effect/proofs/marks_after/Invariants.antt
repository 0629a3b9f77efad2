-- `marks_after`. The invariant: the marks below i are the ballot's where the flag is set and 0 elsewhere, and the others are 0.
-- Assumes nothing.
use Rattle.std.proofs.Common.{◌≡◌, cond, replicate}
use Rattle.base.specs.Below.{up_to}
use Rattle.quorum.specs.Vote.{flags_of}
use Rattle.open_effect.proofs.marks_after.Given as goal

abbrev pub invariant-loop-i : goal.invariant-loop-i
invariant-loop-i l = l.marks ≡ up_to (λ j. cond (flags_of l.b.clean j) l.b.mark 0) (replicate 7 0) l.i
