-- `lanes::numbers`. The invariant: the lanes below j stand behind their numbers.
-- Assumes nothing.
use mathlib.Core.Path.{◌≡◌}
use Prim.Native.Nat.{◌+◌}
use lib.ListN.{replicate}
use Rattle.base.specs.Below.{up_to}
use Rattle.lanes.specs.Lanes.{lanes, after_number}
use Rattle.lanes.proofs.numbers.Given as goal

abbrev pub invariant-loop-j : goal.invariant-loop-j
invariant-loop-j l = l.r ≡ up_to (λ i. after_number (l.n + i)) (replicate lanes 0) l.j
