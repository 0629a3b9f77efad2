-- `read::read_by`: a mark comes with the place's bytes; anything else, by its tag, is what `no_mark` makes of it (`not_read`).
use Rattle.hearing.specs.Hearing.{read_by}
use Rattle.hearing.proofs.Tags.{not_read}
use Rattle.reading_calls.proofs.read.read_by.Goals as goal

pub returns-in_default : goal.returns-in_default
returns-in_default c = rw (c.settle.ensures, c.no_mark-c.ensures, c.with_unheard.ensures) (not_read _ _ _ _ _ c.in_default.not-Mark)

pub returns : goal.returns
unfolding read_by
returns c = rw (c.put_server.ensures, c.with_heard.ensures, c.in-Mark.is)
