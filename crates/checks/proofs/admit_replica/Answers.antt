-- `checks::admit_replica`: 4 and 5 behind the server's rows; once these passed, there is such a server (`is_server`).
use mathlib.Core.List.{[], ◌∷◌}
use native.Mathlib.Omega.{arith}
use Rattle.cluster.specs.Refusals.{row, server_rows}
use Rattle.checks.specs.Results.{state_of}
use Rattle.checks.proofs.Behind.{behind, stopped, is_server}
use Rattle.checks.proofs.admit_replica.Goals as goal

pub returns-in_err-admit_server : goal.returns-in_err-admit_server
returns-in_err-admit_server c =
    λ m t em et. stopped _ _ (server_rows _ (state_of _ m t) _) _ c.from_residual.ensures (c.in_err-admit_server.ensures m t em et)

pub returns-in_err-refuse_if : goal.returns-in_err-refuse_if
returns-in_err-refuse_if c =
    λ m t em et.
    behind (server_rows _ (state_of _ m t) _) _ (c.in_ok-admit_server.ensures m t em et)
    (stopped _ _ (row 4 _ ∷ []) _ c.from_residual-in_err-refuse_if.ensures c.in_err-refuse_if.ensures)

pub bounds-records-server : goal.bounds-records-server
bounds-records-server c = is_server _ _ _ _ _ c.in_ok-admit_server.ensures

pub offset_bounds-records-server : goal.offset_bounds-records-server
offset_bounds-records-server c = let b = bounds-records-server c in omega (arith, b)

pub returns : goal.returns
returns c =
    λ m t em et.
    rw (← c.allowed-other.ensures)
    (behind (server_rows _ (state_of _ m t) _) _ (c.in_ok-admit_server.ensures m t em et)
    (behind (row 4 _ ∷ []) _ c.in_ok-refuse_if.ensures c.refuse_if-2.ensures))
