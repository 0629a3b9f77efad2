-- `replica::read`: not answered, it is silent (`unread`); else by whether the replica declines, where what was read is what the medium holds
-- (`read_declining`, `reading`).
use mathlib.Core.Path.{refl, sym, ◌∙◌}
use Rattle.replica.proofs.Answering.{heard_said, unread, read_declining, reading}
use Rattle.replica.proofs.read.Goals as goal

pub returns-then-not-answers : goal.returns-then-not-answers
returns-then-not-answers c =
    let a = c.args in
    unread a.places a.session a.recorded a.f a.m.now (sym c.answers.ensures ∙ c.if-not-answers.true)

pub returns-in-Err : goal.returns-in-Err
returns-in-Err c =
    let a = c.args in
    let d = c.read_medium-r.ensures in
    let j = c.in-Err.ensures in
    read_declining c.read_medium-r.result a.places a.m.now d.0 d.1 a.f a.session a.recorded _
    (sym j.declines) (heard_said a.f _ _ (sym c.answers.ensures ∙ c.if-not-answers.false) (j.says 0))

pub returns-in-Ok : goal.returns-in-Ok
returns-in-Ok c =
    let a = c.args in
    let d = c.read_medium-r.ensures in
    let j = c.in-Ok.ensures in
    reading c.read_medium-r.result a.places a.m.now d.0 d.1 a.f a.session a.recorded _
    (sym j.declines) (heard_said a.f _ _ (sym c.answers.ensures ∙ c.if-not-answers.false) refl)
