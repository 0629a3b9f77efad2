-- `clean_flags`: no flag is set before the first turn, and a turn sets its own (`up_to_step`).
use borrow.Author.Rules.{rules}
use Rattle.base.specs.Below.{up_to}
use Rattle.base.proofs.Below.{up_to_step}
use Rattle.ballot.proofs.clean_flags.Goals as goal

pub loop-i-init : goal.loop-i-init
unfolding up_to
loop-i-init c = search rules

pub loop-i-preserved : goal.loop-i-preserved
loop-i-preserved c = up_to_step _ _ _ _ _ c.loop-i.invariant c.is_clean.ensures
