-- `groups::agreeing`. The invariant: j places are valid, and the check of the next stands at a.
use mathlib.Core.Path.{◌≡◌}
use Prim.Native.Nat.{◌+◌, ◌-◌, ◌*◌}
use lib.ListN.{drop}
use Rattle.lanes.specs.Lanes.{lanes}
use Rattle.storage.specs.Layout.{check_offset}
use Rattle.storage.specs.Sizes.{place_layout, place_size}
use Rattle.scan.specs.Rows.{valid_rows}
use Rattle.scan.proofs.groups.agreeing.Given as goal

abbrev pub invariant-loop-j : goal.invariant-loop-j
invariant-loop-j l = (l.a ≡ check_offset place_layout + place_size * l.j) × (valid_rows lanes l.n l.s ≡ l.j + valid_rows (lanes - l.j) (l.n + l.j) (drop (place_size * l.j) l.s))
