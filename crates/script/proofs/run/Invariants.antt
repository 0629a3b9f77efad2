-- `run`. The invariant: a line held fits, and all replies are written.
-- Assumes nothing.
use mathlib.Core.Path.{◌≡◌}
use Prim.Native.Nat.{◌≤◌}
use Rattle.answers.specs.Sizes.{line_room}
use Rattle.script.proofs.run.Given as goal

abbrev pub invariant-loop : goal.invariant-loop
invariant-loop g l = (l.running.n ≤ line_room) × (l.running.o ≡ 0)
