-- `journal_convert` meets its contract: the converter's reply, as its number.
use mathlib.Core.Path.{sym, ap, ◌∙◌}
use Rattle.converter.specs.Convert.{reply_of}
use Rattle.journal.specs.Exported.{replied}
use Rattle.journal.proofs.exported.journal_convert.Goals as goal

pub returns-in-Ok : goal.returns-in-Ok
returns-in-Ok c = (sym (ap (λ v. replied (reply_of v)) c.in-Ok.is) ∙ ap replied c.convert.ensures.0, c.convert.ensures.1)

pub returns-in-Err : goal.returns-in-Err
returns-in-Err c = (c.from.ensures ∙ sym (ap (λ v. replied (reply_of v)) c.in-Err.is) ∙ ap replied c.convert.ensures.0, c.convert.ensures.1)
