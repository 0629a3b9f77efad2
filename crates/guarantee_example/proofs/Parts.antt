-- The outlines of the five parts of the list of specs/Example.antt, worked out: each from the state that the part before leaves.
-- Assumes nothing.
use mathlib.Core.Path.{◌≡◌, refl}
use Rattle.cluster.specs.State.{fresh}
use Rattle.guarantee_example.specs.Example.{shape, calls_1, calls_2, calls_3, calls_4, calls_5, replies_1, replies_2, replies_3, replies_4, replies_5}
use Rattle.guarantee_example.proofs.Outline.{outline}
use Rattle.guarantee_example.proofs.Worked.{unfolded, lines, opened_at_lem}
use Rattle.guarantee_example.proofs.States.{state_1, state_2, state_3, state_4}

pub part_1 : outline shape (fresh shape) calls_1 ≡ (opened_at_lem 4 0 1 (lines replies_1), state_1)
unfolding unfolded state_1
part_1 = refl

pub part_2 : outline shape state_1 calls_2 ≡ (lines replies_2, state_2)
unfolding unfolded state_1 state_2
part_2 = refl

pub part_3 : outline shape state_2 calls_3 ≡ (lines replies_3, state_3)
unfolding unfolded state_2 state_3
part_3 = refl

pub part_4 : outline shape state_3 calls_4 ≡ (lines replies_4, state_4)
unfolding unfolded state_3 state_4
part_4 = refl

pub part_5 : (outline shape state_4 calls_5).0 ≡ opened_at_lem 1 3 2 (lines replies_5)
unfolding unfolded state_4
part_5 = refl
