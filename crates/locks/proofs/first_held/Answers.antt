-- `locks::first_held` meets its contract: each turn passes a lock or answers it.
-- Assumes nothing.
use mathlib.Core.Path.{refl}
use native.Mathlib.Omega.{arith}
use Rattle.locks.proofs.Laws.{held_here, held_next, held_end}
use Rattle.locks.proofs.first_held.Goals as goal

pub loop-lock-init : goal.loop-lock-init
loop-lock-init c = refl

pub returns-then-refuses : goal.returns-then-refuses
returns-then-refuses c =
    let l = c.loop-lock in
    held_here _ c.args.locks.now _ l.lock-index _ l.invariant (omega arith) _ _ c.estimate-estimate.ensures c.refuses.ensures c.if-refuses.true

pub loop-lock-preserved : goal.loop-lock-preserved
loop-lock-preserved c =
    let l = c.loop-lock in
    held_next _ c.args.locks.now _ l.lock-index _ l.invariant (omega arith) _ _ c.estimate-estimate.ensures c.refuses.ensures c.if-refuses.false

pub returns : goal.returns
returns c = let l = c.loop-lock in held_end _ c.args.locks.now _ l.lock-index _ l.invariant (omega arith)
