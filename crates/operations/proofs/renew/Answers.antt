-- `renew`: an equal promise makes no write, another one makes one (`not_promised`, `promised`).
use mathlib.Core.Path.{refl, sym, ◌∙◌}
use Rattle.fate.proofs.Laws.{from_none, from_one}
use Rattle.storage.proofs.Writing.{promised, not_promised}
use Rattle.operations.proofs.renew.Goals as goal

pub returns-then-x-session : goal.returns-then-x-session
returns-then-x-session c =
    let a = c.args in
    let e = not_promised a.c a.x a.session c.if-x-session.true in
    rw e (refl, sym (from_none a.given.now 1 a.f a.m.now))

pub returns : goal.returns
returns c =
    let a = c.args in
    let e = promised a.c a.x a.session c.if-x-session.false in
    rw e (refl, c.set_slot.ensures ∙ sym (from_one a.given.now 1 a.f _ a.m.now))
