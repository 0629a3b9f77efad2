-- `values::read_numbers`. The invariant: the numbers left, written behind those written, give the whole.
-- Assumes nothing.
use mathlib.Core.Path.{◌≡◌}
use Prim.Native.Nat.{◌-◌}
use lib.ListN.{length}
use Rattle.octets.specs.Octets.{write_at}
use Rattle.lines.specs.Values.{numbers_of}
use Rattle.lines.proofs.values.read_numbers.Given as goal

abbrev pub invariant-loop-i : goal.invariant-loop-i
invariant-loop-i l = (length l.out ≡ length l.initial.out) × (write_at 0 (numbers_of l.n l.s) l.initial.out ≡ write_at l.i (numbers_of (l.n - l.i) l.t) l.out)
