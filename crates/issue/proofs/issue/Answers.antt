-- `issue`: the call is an issue under the pair of its client (`own_pair`), and a place has room for any client's bytes (`has_room`).
use mathlib.Core.Path.{sym}
use Rattle.cluster.proofs.Limited.{own_pair, has_room}
use Rattle.issue.proofs.issue.Goals as goal

pub issue_under-requires : goal.issue_under-requires
issue_under-requires c = rw c.limits_of-limits.ensures (has_room _)

pub returns : goal.returns
returns c = rw (c.issue_under.ensures, c.limits_of-limits.ensures) (sym (own_pair _ _ _ _ _ _ _ _ _ _))
