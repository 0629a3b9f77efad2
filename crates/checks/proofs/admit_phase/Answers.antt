-- `checks::admit_phase`: 5 behind the server's rows; once these passed, there is such a server (`is_server`).
use native.Mathlib.Omega.{arith}
use Rattle.cluster.specs.Refusals.{server_rows}
use Rattle.checks.specs.Results.{state_of}
use Rattle.checks.proofs.Behind.{behind, stopped, is_server}
use Rattle.checks.proofs.admit_phase.Goals as goal

pub returns-in_err-admit_server : goal.returns-in_err-admit_server
returns-in_err-admit_server c =
    λ m t em et. stopped _ _ (server_rows _ (state_of _ m t) _) _ c.from_residual.ensures (c.in_err-admit_server.ensures m t em et)

pub bounds-records-server : goal.bounds-records-server
bounds-records-server c = is_server _ _ _ _ _ c.in_ok-admit_server.ensures

pub offset_bounds-records-server : goal.offset_bounds-records-server
offset_bounds-records-server c = let b = bounds-records-server c in omega (arith, b)

pub returns : goal.returns
returns c =
    λ m t em et.
    rw (← c.allowed.ensures) (behind (server_rows _ (state_of _ m t) _) _ (c.in_ok-admit_server.ensures m t em et) c.refuse_if.ensures)
