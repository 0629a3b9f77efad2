-- `entries_after`. The invariant: the entries below i are those after open, and the others are as they were.
-- Assumes nothing.
use Rattle.std.proofs.Common.{◌≡◌}
use Rattle.base.specs.Below.{up_to}
use Rattle.quorum.specs.Vote.{flags_of}
use Rattle.cluster.specs.State.{entry_at}
use Rattle.cluster.specs.Effects.{entry_after}
use Rattle.open_effect.proofs.entries_after.Given as goal

abbrev pub invariant-loop-i : goal.invariant-loop-i
invariant-loop-i l = l.entries ≡ up_to (λ j. entry_after (entry_at l.before j) (flags_of l.b.clean j) l.b.server.now.session l.b.mark) l.before l.i
