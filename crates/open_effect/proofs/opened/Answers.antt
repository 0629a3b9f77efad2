-- `opened`, by whether the message is answered: the server is opened or idle, and the register is what `register_after` ensures.
use mathlib.Core.Path.{sym, ◌∙◌}
use Rattle.cluster.specs.Effects.{open_effect}
use Rattle.open_effect.proofs.opened.Goals as goal

pub returns-then-is_answered : goal.returns-then-is_answered
unfolding open_effect
returns-then-is_answered c = λ x s media tables e n. rw (e, n, c.opened_server.ensures, sym c.is_answered.ensures ∙ c.if-is_answered.true, c.register_after-register.ensures)

pub returns : goal.returns
unfolding open_effect
returns c = λ x s media tables e n. rw (e, n, c.idle.ensures, sym c.is_answered.ensures ∙ c.if-is_answered.false, c.register_after-register.ensures)
