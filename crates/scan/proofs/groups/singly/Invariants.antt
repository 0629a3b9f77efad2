-- `groups::singly`. The invariant: j places are valid, those from a on are left.
use mathlib.Core.Path.{◌≡◌}
use Prim.Native.Nat.{◌+◌, ◌-◌, ◌*◌}
use lib.ListN.{drop}
use Rattle.storage.specs.Sizes.{place_size}
use Rattle.scan.specs.Rows.{valid_rows}
use Rattle.scan.proofs.groups.singly.Given as goal

abbrev pub invariant-loop-j : goal.invariant-loop-j
invariant-loop-j l = (l.a ≡ place_size * l.j) × (valid_rows l.count l.n l.s ≡ l.j + valid_rows (l.count - l.j) (l.n + l.j) (drop l.a l.s))
