-- `taken`, by whether the message is answered: the server is opening or idle, and the register is what `raised` ensures.
use mathlib.Core.Path.{sym, ◌∙◌}
use Rattle.cluster.specs.Effects.{take_effect}
use Rattle.take_effect.proofs.taken.Goals as goal

pub returns-then-is_answered : goal.returns-then-is_answered
unfolding take_effect
returns-then-is_answered c = λ r s media tables e. rw (e, c.opening.ensures, sym c.is_answered.ensures ∙ c.if-is_answered.true, c.raised-register.ensures)

pub returns : goal.returns
unfolding take_effect
returns c = λ r s media tables e. rw (e, c.idle.ensures, sym c.is_answered.ensures ∙ c.if-is_answered.false, c.raised-register.ensures)
