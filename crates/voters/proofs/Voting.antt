-- The flags that the vote is made of: those of the replicas that a server may use, without the restored ones.
-- Assumes nothing.
use mathlib.Core.Path.{◌≡◌}
use mathlib.Core.Bool.{Bool, false, ◌&&◌, not}
use mathlib.Core.List.{List}
use Prim.Native.Nat.{ℕ, ◌<◌}
use lib.ListN.{get_or, replicate}
use native.Mathlib.Omega.{arith}
use Rattle.base.specs.Below.{up_to}
use Rattle.base.proofs.Below.{up_to_at}
use Rattle.cluster.specs.declared.Server.{Server}
use Rattle.cluster.specs.State.{active_at, restored_at, votes_at}

pub votes_are :
    (v : Server) (flags out : List Bool) (i : ℕ)
    → flags ≡ up_to (active_at v) (replicate 7 false) 7
    → out ≡ up_to (λ j. get_or flags j false && not (restored_at v j)) (replicate 7 false) 7
    → i < 7
    → get_or out i false ≡ votes_at v i
votes_are v flags out i e q l =
    let active : get_or flags i false ≡ active_at v i = rw e (up_to_at (active_at v) (replicate 7 false) 7 i false l (omega arith)) in
    rw (← active) (rw q (up_to_at (λ j. get_or flags j false && not (restored_at v j)) (replicate 7 false) 7 i false l (omega arith)))
