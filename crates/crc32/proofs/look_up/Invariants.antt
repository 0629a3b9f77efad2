-- `crc32::look_up`. The invariant: look-ups made and still to make are all; what is left of x has a byte for each turn left.
-- Assumes nothing.
use mathlib.Core.Path.{◌≡◌}
use Prim.Native.Nat.{◌+◌, ◌-◌, ◌^◌, ◌≤◌, ◌<◌}
use lib.Bits.{bit_xor}
use Rattle.crc32.proofs.Words.{look_ups}
use Rattle.crc32.proofs.look_up.Given as goal

abbrev pub invariant-loop-k : goal.invariant-loop-k
invariant-loop-k l = (l.width ≤ l.k + 4) × (l.y < 256 ^ (l.k + 4 - l.width)) × (bit_xor l.before (look_ups l.t.entries l.width l.x) ≡ bit_xor l.r (look_ups l.t.entries l.k l.y))
