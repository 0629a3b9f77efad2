-- `checks::admit_server`: the test for 3 behind `admit_cluster`'s rows.
use Rattle.cluster.specs.Refusals.{cluster_rows}
use Rattle.checks.specs.Results.{state_of}
use Rattle.checks.proofs.Behind.{behind, stopped}
use Rattle.checks.proofs.admit_server.Goals as goal

pub returns-in_err-admit_cluster : goal.returns-in_err-admit_cluster
returns-in_err-admit_cluster c =
    λ m t em et. stopped _ _ (cluster_rows _ (state_of _ m t)) _ c.from_residual.ensures (c.in_err-admit_cluster.ensures m t em et)

pub returns : goal.returns
returns c = λ m t em et. behind (cluster_rows _ (state_of _ m t)) _ (c.in_ok-admit_cluster.ensures m t em et) c.refuse_if.ensures
