-- `read_place`: the part copied is place n, by its offset and its size (`between_part`).
use mathlib.Core.Path.{◌∙◌}
use Rattle.octets.proofs.Laws.{between_part}
use Rattle.storage.specs.Sizes.{place_offset, place_size}
use Rattle.storage.specs.Log.{place_at}
use Rattle.medium_places.proofs.read_place.Goals as goal

pub returns : goal.returns
unfolding place_at
returns c =
    let a = c.args in
    c.copy_from_slice.ensures.after ∙ between_part (place_offset a.n) place_size a.m.now
