-- `lanes::words`. The invariant: what is behind is taken in by every lane.
-- Assumes nothing.
use mathlib.Core.Path.{◌≡◌}
use Prim.Native.Nat.{◌+◌, ◌*◌}
use Rattle.lanes.specs.Lanes.{Onward}
use Rattle.lanes.proofs.words.Given as goal

abbrev pub invariant-loop-pair : goal.invariant-loop-pair
invariant-loop-pair l = (l.a ≡ l.at + 8 * l._pair) × Onward (8 * l._pair) l.at l.size l.s l.fn.before l.r
