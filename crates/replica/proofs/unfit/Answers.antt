-- `replica::unfit`: what was read is what the medium holds, so what `judged` says by it is the definition's test (`refuses_is`).
use mathlib.Core.Path.{◌∙◌}
use Rattle.replica.proofs.Answering.{refuses_is}
use Rattle.replica.proofs.unfit.Goals as goal

pub returns : goal.returns
returns c =
    let a = c.args in
    let d = c.read_medium-r.ensures in
    c.is_err.ensures.value ∙ c.judged.ensures.declines ∙ refuses_is c.read_medium-r.result a.places a.m.now d.0 d.1 a.session a.recorded
