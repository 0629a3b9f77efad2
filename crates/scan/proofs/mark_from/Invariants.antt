-- `scan::mark_from`. The invariant: n places are valid, those from a on are left, and both make the mark.
use mathlib.Core.Path.{◌≡◌}
use Prim.Native.Nat.{◌+◌, ◌-◌, ◌*◌, ◌≤◌}
use lib.ListN.{drop}
use Rattle.storage.specs.Sizes.{slots_size, place_size}
use Rattle.storage.specs.Log.{mark_of}
use Rattle.scan.specs.Rows.{valid_rows}
use Rattle.scan.proofs.mark_from.Given as goal

abbrev pub invariant-loop-n : goal.invariant-loop-n
invariant-loop-n l = (l.n ≤ l.places) × (l.a ≡ slots_size + place_size * l.n) × (mark_of l.places l.m ≡ l.n + valid_rows (l.places - l.n) l.n (drop l.a l.m))

abbrev pub decreases-loop-n : goal.decreases-loop-n
decreases-loop-n l = l.places - l.n
