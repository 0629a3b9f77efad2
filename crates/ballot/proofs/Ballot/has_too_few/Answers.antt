-- `Ballot::has_too_few`: the flags of a ballot are as many as the clean replicas (`clean_count`).
use Rattle.ballot.proofs.Counting.{clean_count}
use Rattle.ballot.proofs.Ballot.has_too_few.Goals as goal

pub returns : goal.returns
returns c =
    let b = c.args.self.now in
    rw (c.count_flags.ensures, c.quorum_of.ensures, clean_count b.server.now b.mark b.replicas b.clean b.within b.are_clean)
