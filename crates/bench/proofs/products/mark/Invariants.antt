-- `products::mark`. The invariant of the scan by a sum (`scan::mark_from`), without where the next group begins.
-- Assumes nothing.
use Rattle.std.proofs.Common.{◌≡◌, ◌+◌, ◌-◌, ◌*◌, ◌≤◌, drop}
use Rattle.storage.specs.Sizes.{slots_size, place_size}
use Rattle.storage.specs.Log.{mark_of}
use Rattle.scan.specs.Rows.{valid_rows}
use Rattle.bench.proofs.products.mark.Given as goal

abbrev pub invariant-loop-n : goal.invariant-loop-n
invariant-loop-n l = (l.n ≤ l.places) × (mark_of l.places l.m ≡ l.n + valid_rows (l.places - l.n) l.n (drop (slots_size + place_size * l.n) l.m))

abbrev pub decreases-loop-n : goal.decreases-loop-n
decreases-loop-n l = l.places - l.n
