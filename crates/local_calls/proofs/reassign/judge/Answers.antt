-- `reassign::judge`: 21 behind the cluster's rows; a generation is 2^32 - 1 exactly when one more is 2^32 (`top_is`).
use mathlib.Core.Path.{refl}
use Prim.Native.Nat.{◌^◌}
use Rattle.base.proofs.Tops.{top_is}
use Rattle.cluster.specs.Refusals.{cluster_rows}
use Rattle.checks.specs.Results.{state_of}
use Rattle.checks.proofs.Behind.{behind, stopped}
use Rattle.local_calls.proofs.reassign.judge.Goals as goal

pub returns-in_err-admit_cluster : goal.returns-in_err-admit_cluster
returns-in_err-admit_cluster c =
    λ m t em et. stopped _ _ (cluster_rows _ (state_of _ m t)) _ c.from_residual.ensures (c.in_err-admit_cluster.ensures m t em et)

pub returns : goal.returns
returns c =
    λ m t em et.
    rw (← top_is 4294967295 (2 ^ 32) refl c.args.records.register.generation)
    (behind (cluster_rows _ (state_of _ m t)) _ (c.in_ok-admit_cluster.ensures m t em et) c.refuse_if.ensures)
