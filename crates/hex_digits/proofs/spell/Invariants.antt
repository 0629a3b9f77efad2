-- `hex_digits::spell`. The invariant: what is written is the spelling of the bytes passed.
-- Assumes nothing.
use mathlib.Core.Path.{◌≡◌}
use Prim.Native.Nat.{◌*◌}
use lib.ListN.{take}
use Rattle.hex_digits.specs.Hex.{hex_of}
use Rattle.hex_digits.proofs.spell.Given as goal

abbrev pub invariant-loop-i : goal.invariant-loop-i
invariant-loop-i l = take (2 * l.i) l.out ≡ hex_of (take l.i l.b)
