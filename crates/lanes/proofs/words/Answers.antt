-- `lanes::words`. The invariant: what is behind is taken in by every lane.
-- Assumes nothing.
use mathlib.Core.Path.{◌≡◌}
use Prim.Native.Nat.{◌+◌, ◌*◌, ◌/◌}
use Rattle.lanes.proofs.Steps.{onward_none, onward_join}
use native.Mathlib.Omega.{arith}
use Rattle.lanes.proofs.words.Goals as goal

pub loop-pair-init : goal.loop-pair-init
loop-pair-init c = (omega arith, onward_none c.args.at c.args.size c.args.s.now c.args.before)

pub loop-pair-preserved : goal.loop-pair-preserved
loop-pair-preserved c =
    let a = c.args in
    let l = c.loop-pair in
    let k : 8 * l._pair + 8 ≡ 8 * (l._pair + 1) = omega arith in (
      omega arith,
      rw k at (onward_join (8 * l._pair) 8 a.at a.size a.s.now a.before l.r c.abreast-next.result l.invariant.1 (rw l.invariant.0 at c.abreast-next.ensures)),
    )

pub returns-then-count-eq0 : goal.returns-then-count-eq0
returns-then-count-eq0 c =
    let a = c.args in
    let l = c.loop-pair in
    let k : 8 * l._pair ≡ 4 * a.count = omega arith in
    rw k at l.invariant.1

pub returns : goal.returns
returns c =
    let a = c.args in
    let l = c.loop-pair in
    let k : 8 * l._pair + 4 ≡ 4 * a.count = omega arith in
    rw k at (onward_join (8 * l._pair) 4 a.at a.size a.s.now a.before l.r c.abreast.result l.invariant.1 (rw l.invariant.0 at c.abreast.ensures))
