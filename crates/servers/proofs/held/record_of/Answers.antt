-- `held::record_of`: the part that starts where `offset_of` says, copied out.
use mathlib.Core.Path.{ap, ◌∙◌}
use Prim.Native.Nat.{ℕ}
use Rattle.octets.specs.Octets.{part}
use Rattle.octets.proofs.Laws.{between_part}
use Rattle.storage.specs.Sizes.{place_size}
use Rattle.servers.proofs.held.record_of.Goals as goal

pub returns : goal.returns
returns c =
    let held = c.args.held.now in
    c.copy_from_slice.ensures.after ∙ between_part c.offset_of-at.result place_size held ∙ ap (λ (k : ℕ). part k place_size held) c.offset_of-at.ensures
