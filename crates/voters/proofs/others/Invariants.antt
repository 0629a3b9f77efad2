-- `others`. The invariant: the flags below i say which replicas are flagged and not restored, and the others are false.
use mathlib.Core.Path.{◌≡◌}
use mathlib.Core.Bool.{◌&&◌, not, false}
use lib.ListN.{get_or, replicate}
use Rattle.base.specs.Below.{up_to}
use Rattle.cluster.specs.State.{entry_at, is_restored}
use Rattle.voters.proofs.others.Given as goal

abbrev pub invariant-loop-i : goal.invariant-loop-i
invariant-loop-i l =
    l.out ≡ up_to (λ j. get_or l.flags j false && not (is_restored (entry_at l.entries j).closing)) (replicate 7 false) l.i
