-- `line::after`. The invariant: what is sought is as many tabs further in what is left of the line.
-- Assumes nothing.
use mathlib.Core.Path.{◌≡◌}
use Prim.Native.Nat.{◌-◌}
use Rattle.text.specs.Text.{after_of}
use Rattle.text.proofs.line.after.Given as goal

abbrev pub invariant-loop-i : goal.invariant-loop-i
invariant-loop-i l = after_of l.k l.line ≡ after_of (l.k - l._i) l.s
