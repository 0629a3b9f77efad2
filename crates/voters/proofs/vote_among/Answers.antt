-- `vote_among`: the flags made agree with the replicas that vote below r (`votes_are`), so `vote_of` gives the same vote (`vote_same`).
use native.Mathlib.Omega.{arith}
use mathlib.Core.Path.{refl, ◌∙◌}
use Rattle.cluster.specs.State.{votes_at, mark_at}
use Rattle.quorum.specs.Vote.{flags_of}
use Rattle.quorum.proofs.Same.{vote_same}
use Rattle.voters.proofs.Voting.{votes_are}
use Rattle.voters.proofs.vote_among.Goals as goal

pub returns : goal.returns
returns c =
    let v = c.args.v in
    let p = c.requires in
    c.vote_of.ensures
    ∙ vote_same c.args.r (flags_of c.others.result) (votes_at v) (mark_at v) (mark_at v)
    (λ i l. votes_are v _ _ i c.active_flags-flags.ensures c.others.ensures (omega arith))
    (λ i l. refl)
