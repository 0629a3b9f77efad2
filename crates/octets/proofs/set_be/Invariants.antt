-- `octets::set_be`. The invariant: the i low bytes of x, then the bytes from i on, are all the bytes of v.
use mathlib.Core.Path.{◌≡◌}
use lib.ListN.{length, drop}
use mathlib.Core.List.{◌++◌}
use Rattle.octets.specs.Octets.{be_bytes}
use Rattle.octets.proofs.set_be.Given as goal

abbrev pub invariant-loop-i : goal.invariant-loop-i
invariant-loop-i l = be_bytes (length l.fn.dst) l.v ≡ be_bytes l.i l.x ++ drop l.i l.dst
