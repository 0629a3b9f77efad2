-- `line::behind`: what `&s[k..]` refers to is the list from k on.
-- Assumes nothing.
use Rattle.text.proofs.Fields.{found, behind_is, behind_none}
use Rattle.text.proofs.line.behind.Goals as goal

pub returns-then-i-s : goal.returns-then-i-s
returns-then-i-s c = behind_none _ _ (found _ _ c.find-i.ensures.0) c.if-i-s.true

pub returns : goal.returns
returns c = behind_is _ _ (found _ _ c.find-i.ensures.0)
