-- `octets::copy`. The invariant: the first i bytes are those of src.
use mathlib.Core.Path.{refl}
use lib.ListN.{length-set}
use Rattle.octets.proofs.Lists.{copy_next, copy_end}
use native.Mathlib.Omega.{arith}
use Rattle.octets.proofs.copy.Goals as goal

pub loop-i-init : goal.loop-i-init
loop-i-init c = (refl, refl)

pub loop-i-preserved : goal.loop-i-preserved
loop-i-preserved c =
    let l = c.loop-i in
    (simp length-set (omega arith), copy_next l.dst _ l.i l.invariant.1 (omega arith) (omega arith))

pub returns : goal.returns
returns c = copy_end _ _ c.loop-i.i c.loop-i.invariant.1 (omega arith) (omega arith)
