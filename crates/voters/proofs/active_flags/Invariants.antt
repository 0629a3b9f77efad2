-- `checks::active_flags`. The invariant: the flags below i say which replicas are known and not dropped, and the others are false.
-- Assumes nothing.
use mathlib.Core.Path.{◌≡◌}
use mathlib.Core.Bool.{◌&&◌, not, false}
use lib.ListN.{get_or, replicate}
use Rattle.base.specs.Below.{up_to}
use Rattle.voters.proofs.active_flags.Given as goal

abbrev pub invariant-loop-i : goal.invariant-loop-i
invariant-loop-i l = l.flags ≡ up_to (λ j. get_or l.known j false && not (get_or l.dropped j false)) (replicate 7 false) l.i
