-- What the vote that open counts once says of a server's replicas.
-- Assumes nothing.
use Rattle.std.specs.Prelude.{◌≡◌, ℕ, Option, IfSome, is_none}
use Rattle.cluster.specs.declared.Server.{Server}
use Rattle.cluster.specs.Refusals.{undecided, vote_mark}
use Rattle.ballot.specs.declared.Ballot.{Ballot}

-- a counted vote is that of server v's replicas, at the mark that they decided
pub record CountedOf (v : Server) (r : ℕ) (b : Ballot) : Type 0 where
  pub server : b.server.now ≡ v
  pub replicas : b.replicas ≡ r
  pub at : b.mark ≡ vote_mark r v

-- the vote of server v's replicas, counted: none if it is not decided
pub record Counted (v : Server) (r : ℕ) (o : Option Ballot) : Type 0 where
  pub voted : is_none o ≡ undecided r v
  pub ballot : IfSome o (CountedOf v r)
