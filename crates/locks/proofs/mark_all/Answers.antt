-- `locks::mark_all` meets its contract: each turn writes a lock.
-- Assumes nothing.
use mathlib.Core.Path.{refl, ◌∙◌}
use native.Mathlib.Omega.{arith}
use Rattle.locks.proofs.Laws.{marked_next, marked_end}
use Rattle.locks.proofs.mark_all.Goals as goal

pub loop-k-init : goal.loop-k-init
loop-k-init c = (refl, refl)

pub loop-k-preserved : goal.loop-k-preserved
loop-k-preserved c =
    let l = c.loop-k in
    (c.mark_lock.auto.table ∙ l.invariant.0, marked_next _ c.args.locks.now _ l.k-index _ l.invariant.1 (omega arith) _ c.mark_lock.ensures)

pub returns : goal.returns
returns c = let l = c.loop-k in marked_end _ c.args.locks.now _ l.k-index _ l.invariant.1 (omega arith)
