-- `values::all_numbers`. The invariant: whether the fields left are numbers decides.
-- Assumes nothing.
use mathlib.Core.Path.{◌≡◌}
use Prim.Native.Nat.{◌-◌}
use Rattle.lines.specs.Values.{all_numbers}
use Rattle.lines.proofs.values.all_numbers.Given as goal

abbrev pub invariant-loop-i : goal.invariant-loop-i
invariant-loop-i l = all_numbers l.n l.s ≡ all_numbers (l.n - l._i) l.t
