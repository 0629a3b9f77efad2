-- 8 and 9 by the counted vote.
-- Assumes nothing.
use mathlib.Core.Path.{◌≡◌, refl}
use mathlib.Core.List.{[], ◌∷◌}
use Prim.Native.Nat.{ℕ}
use Rattle.std.specs.Prelude.{⊤, Option, Some, None}
use Rattle.std.proofs.lemmas.Option.{MatchOption-at_some}
use Rattle.cluster.specs.declared.Server.{Server}
use Rattle.cluster.specs.Refusals.{row, pass, declined, undecided, vote_mark, too_few_clean, first_of}
use Rattle.ballot.specs.declared.Ballot.{Ballot}
use Rattle.ballot.specs.Counted.{Counted, CountedOf}

module _ (v : Server) (r : ℕ) (o : Option Ballot) (n : Counted v r o) where
  pub undecided_is : o ≡ None → declined 8 [] ≡ first_of (row 8 (undecided r v) ∷ [])
  unfolding first_of
  undecided_is e = rw (← n.voted, e) refl

  pub decided_passes : (b : Ballot) → o ≡ Some b → pass ≡ first_of (row 8 (undecided r v) ∷ [])
  unfolding first_of
  decided_passes b e = rw (← n.voted, e) refl

  pub counted : (b : Ballot) → o ≡ Some b → CountedOf v r b
  counted b e = MatchOption-at_some ⊤ (CountedOf v r) b e n.ballot

pub few_is : (v : Server) (r : ℕ) (b : Ballot) → CountedOf v r b → too_few_clean b.replicas b.server.now b.mark ≡ too_few_clean r v (vote_mark r v)
few_is v r b n = rw (n.server, n.replicas, n.at) refl
