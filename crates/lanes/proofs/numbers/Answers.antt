-- `lanes::numbers`. The invariant: the lanes below j stand behind their numbers.
-- Assumes nothing.
use mathlib.Core.Path.{refl, ap, ◌∙◌}
use mathlib.Core.List.{List}
use Prim.Native.Nat.{ℕ}
use lib.ListN.{get_or}
use Rattle.base.specs.Below.{up_to}
use Rattle.base.proofs.Below.{up_to_step, up_to_at}
use native.Mathlib.Omega.{arith}
use Rattle.lanes.proofs.numbers.Goals as goal

pub loop-j-init : goal.loop-j-init
unfolding up_to
loop-j-init c = refl

pub loop-j-preserved : goal.loop-j-preserved
loop-j-preserved c = up_to_step _ _ _ _ _ c.loop-j.invariant c.number.ensures

pub returns : goal.returns
returns c = λ j h.
    let l = c.loop-j in
    ap (λ (r : List ℕ). get_or r j 0) l.invariant ∙ up_to_at _ _ l.j j 0 (omega arith) (omega arith)
