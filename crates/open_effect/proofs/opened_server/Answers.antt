-- `opened_server`: the flags are those of the clean replicas, so the marks made by them are the definition's (`marks_are`).
use mathlib.Core.Path.{◌∙◌}
use Rattle.cluster.specs.Effects.{opened_server}
use Rattle.ballot.proofs.Counting.{marks_are}
use Rattle.open_effect.proofs.opened_server.Goals as goal

pub returns : goal.returns
unfolding opened_server
returns c =
    let b = c.args.b.now in
    rw (c.marks_after-marks.ensures ∙ marks_are b.server.now b.mark b.replicas b.clean b.within b.are_clean, b.are_clean)
