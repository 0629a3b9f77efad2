-- `Running::feed`. The invariant: the replies to what is left have room. The measure is what is left of the bytes.
-- Assumes nothing.
use mathlib.Core.Path.{◌≡◌}
use Prim.Native.Nat.{◌+◌, ◌*◌, ◌-◌, ◌≤◌}
use lib.ListN.{length, drop}
use Rattle.answers.specs.Sizes.{line_room, out_limit}
use Rattle.interpreter.specs.Input.{fed, program_in}
use Rattle.interpreter.proofs.program.Running.feed.Given as goal

abbrev pub invariant-loop-i : goal.invariant-loop-i
invariant-loop-i l =
    (l.self.n ≤ line_room) × (l.self.o + 24 * (length l.chunk - l.i) ≤ out_limit) × (l.i ≤ length l.chunk) × (fed (program_in l.initial.self) l.chunk ≡ fed (program_in l.self) (drop l.i l.chunk))

abbrev pub decreases-loop-i : goal.decreases-loop-i
decreases-loop-i l = length l.chunk - l.i
