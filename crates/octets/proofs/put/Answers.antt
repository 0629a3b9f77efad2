-- `octets::put`: the part that `copy` filled, once it comes back, is a write (`mid_write`).
use mathlib.Core.Path.{refl}
use Prim.Native.Nat.{◌+◌}
use lib.ListN.{length}
use Rattle.octets.proofs.Laws.{mid_write}
use Rattle.octets.proofs.put.Goals as goal

pub returns : goal.returns
returns c =
    let a = c.args in
    mid_write a.at (a.at + length a.src.now) _ _ a.src.now refl c.copy.ensures
