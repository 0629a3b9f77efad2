-- `Ballot::count`, by whether the vote is decided (`not_decided`, `is_decided`).
use mathlib.Core.Path.{refl}
use Rattle.ballot.proofs.Counting.{not_decided, is_decided}
use Rattle.ballot.proofs.Ballot.count.Goals as goal

pub returns-in_err-mark : goal.returns-in_err-mark
returns-in_err-mark c =
    let a = c.args in
    rw c.from_residual.ensures (record { voted = not_decided a.server.now a.replicas c.vote_among.ensures c.in_err-mark.was; ballot = _ })

pub returns : goal.returns
returns c =
    let a = c.args in
    let w = is_decided a.server.now a.replicas c.vote_among.ensures _ c.in_ok-mark.was in
    record { voted = w.0; ballot = record { server = refl; replicas = refl; at = w.1 } }
