-- `truncate`. The invariant: the wipes that are left, from the highest place left down and numbered on from those made, give the result.
use mathlib.Core.Path.{◌≡◌}
use Prim.Native.Nat.{◌+◌, ◌-◌}
use lib.ListN.{length}
use Rattle.fate.specs.Numbered.{after_from}
use Rattle.storage.specs.Operations.{wipes}
use Rattle.medium_places.proofs.truncate.Given as goal

abbrev pub invariant-loop-j : goal.invariant-loop-j
invariant-loop-j l =
    (length l.m ≡ length l.initial.m)
    × (after_from l.k l.f l.given (wipes l.to (l.from - l.to)) l.initial.m ≡ after_from (l.k + l.j) l.f l.given (wipes l.to (l.from - l.j - l.to)) l.m)
