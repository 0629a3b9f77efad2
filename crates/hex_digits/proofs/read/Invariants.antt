-- `hex_digits::read`. The invariant: the bytes left, written behind those written, give the whole.
-- Assumes nothing.
use mathlib.Core.Path.{◌≡◌}
use mathlib.Core.Bool.{true}
use Prim.Native.Nat.{◌*◌}
use lib.ListN.{drop}
use Rattle.octets.specs.Octets.{write_at}
use Rattle.hex_digits.specs.Hex.{is_hex, bytes_of}
use Rattle.hex_digits.proofs.read.Given as goal

abbrev pub invariant-loop-i : goal.invariant-loop-i
invariant-loop-i l = (is_hex (drop (2 * l.i) l.s) ≡ true) × (write_at 0 (bytes_of l.s) l.fn.out ≡ write_at l.i (bytes_of (drop (2 * l.i) l.s)) l.out)
