-- `line::field`: what stands before the first tab of what is left.
-- Assumes nothing.
use mathlib.Core.Path.{ap, ◌∙◌}
use Rattle.text.specs.Text.{first_of}
use Rattle.text.proofs.line.field.Goals as goal

pub returns : goal.returns
returns c = c.first.ensures ∙ ap first_of c.after.ensures
