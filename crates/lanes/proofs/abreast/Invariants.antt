-- `lanes::abreast`. The invariant: the lanes below j have made their step, and a is where lane j's begins.
-- Assumes nothing.
use mathlib.Core.Path.{◌≡◌}
use Prim.Native.Nat.{◌+◌, ◌*◌}
use lib.ListN.{get_or, replicate}
use Rattle.octets.specs.Octets.{part}
use Rattle.crc32.specs.Crc32.{crc_from}
use Rattle.base.specs.Below.{up_to}
use Rattle.lanes.specs.Lanes.{lanes, width}
use Rattle.lanes.proofs.abreast.Given as goal

abbrev pub invariant-loop-j : goal.invariant-loop-j
invariant-loop-j l = (l.a ≡ l.at + l.size * l.j) × (l.next ≡ up_to (λ i. crc_from (get_or l.before i 0) (part (l.at + l.size * i) (width l.wide) l.s)) (replicate lanes 0) l.j)
