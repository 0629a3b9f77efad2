-- `call`: each arm is the element of `eight` that the drawn number names.
-- Assumes nothing.
use Rattle.std.proofs.Common.{◌≡◌, arith}
use Rattle.generator.proofs.Chosen.{chosen}
use Rattle.generator.proofs.call.Goals as goal

pub returns-in-0 : goal.returns-in-0
returns-in-0 c = chosen _ _ _ _ _ 0 _ c.next-a.ensures c.field.ensures.value c.in-0.is c.take.ensures

pub returns-in-1 : goal.returns-in-1
returns-in-1 c = chosen _ _ _ _ _ 1 _ c.next-a.ensures c.field.ensures.value c.in-1.is c.prepare.ensures

pub returns-in-2 : goal.returns-in-2
returns-in-2 c = chosen _ _ _ _ _ 2 _ c.next-a.ensures c.field.ensures.value c.in-2.is c.copy.ensures

pub returns-in-3 : goal.returns-in-3
returns-in-3 c = chosen _ _ _ _ _ 3 _ c.next-a.ensures c.field.ensures.value c.in-3.is c.trim.ensures

pub returns-in-4 : goal.returns-in-4
returns-in-4 c = chosen _ _ _ _ _ 4 _ c.next-a.ensures c.field.ensures.value c.in-4.is c.open.ensures

pub returns-in-5 : goal.returns-in-5
returns-in-5 c = chosen _ _ _ _ _ 5 _ c.next-a.ensures c.field.ensures.value c.in-5.is c.issue.ensures

pub returns-in-6 : goal.returns-in-6
returns-in-6 c = chosen _ _ _ _ _ 6 _ c.next-a.ensures c.field.ensures.value c.in-6.is c.send.ensures

pub returns-in_default : goal.returns-in_default
returns-in_default c =
    let seven : c.field.result ≡ 7 = omega arith in
    chosen _ _ _ _ _ 7 _ c.next-a.ensures c.field.ensures.value seven c.stop.ensures
