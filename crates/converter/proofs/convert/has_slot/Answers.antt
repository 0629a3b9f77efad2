-- `convert::has_slot`: the first is valid, or all is up to the second.
use mathlib.Core.Path.{◌≡◌, sym, ◌∙◌}
use mathlib.Core.Bool.{true, false}
use Rattle.storage.specs.Slots.{valid_slot, first_of}
use Rattle.converter.specs.Convert.{has_slot}
use Rattle.converter.proofs.convert.has_slot.Goals as goal

pub returns-then-valid : goal.returns-then-valid
unfolding has_slot
returns-then-valid c =
    let m = c.args.m.now in
    let v : valid_slot (first_of m) ≡ true = sym c.valid.ensures ∙ c.if-valid.true in
    rw v c.if-valid.true

pub returns-else-valid : goal.returns-else-valid
unfolding has_slot
returns-else-valid c =
    let m = c.args.m.now in
    let v : valid_slot (first_of m) ≡ false = sym c.valid.ensures ∙ c.if-valid.false in
    rw v c.valid-else-valid.ensures
