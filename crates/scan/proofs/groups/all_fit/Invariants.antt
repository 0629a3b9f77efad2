-- `groups::all_fit`. The invariant: j places fit, and the next begins at a.
use mathlib.Core.Path.{◌≡◌}
use Prim.Native.Nat.{ℕ, ◌*◌, ◌<◌}
use Rattle.storage.specs.Sizes.{place_size}
use Rattle.scan.specs.Rows.{Fit}
use Rattle.scan.proofs.groups.all_fit.Given as goal

abbrev pub invariant-loop-j : goal.invariant-loop-j
invariant-loop-j l = (l.a ≡ place_size * l.j) × ((i : ℕ) → i < l.j → Fit l.n l.s i)
