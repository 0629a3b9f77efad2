-- `prepare`: the writes of `close` are numbered on from those of `renew`, and the two lists are one (`prepared`).
use Rattle.storage.proofs.Scan.{mark_le}
use Rattle.storage.proofs.Writing.{promising_le, prepared}
use native.Mathlib.Omega.{arith}
use Rattle.operations.proofs.prepare.Goals as goal

pub close-requires : goal.close-requires
close-requires c =
    let a = c.args in
    let p = c.requires in
    let n = c.renew-k in
    omega (arith, n.auto.m, n.ensures.0, promising_le a.read.current a.read.slot a.session, p.as_read.size, p.as_read.mark, mark_le a.read.places a.m.now)

pub returns : goal.returns
returns c =
    let a = c.args in
    let n = c.renew-k in
    prepared a.read a.f a.given.now a.m.now c.requires.as_read a.session a.to n.result _ _ n.ensures.0 n.ensures.1 c.close.ensures
