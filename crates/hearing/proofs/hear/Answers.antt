-- `hear`: a mark is taken as an answer; anything else, by its tag, is what `no_mark` makes of it (`not_heard`).
use Rattle.hearing.specs.Hearing.{on_heard}
use Rattle.hearing.proofs.Tags.{not_heard}
use Rattle.hearing.proofs.hear.Goals as goal

pub returns-in_default : goal.returns-in_default
returns-in_default c = rw (c.no_mark.ensures, c.counted_if-w.ensures, c.with_unheard.ensures) (not_heard _ _ _ _ _ c.in_default.not-Mark)

pub returns : goal.returns
unfolding on_heard
returns c = rw (c.answer_of.ensures, c.counted_if-w-2.ensures, c.with_heard.ensures, c.in-Mark.is)
