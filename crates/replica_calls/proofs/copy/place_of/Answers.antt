-- `copy::place_of`: `read_place` ensures place n of replica i's medium, which has a medium's size (`medium_length`).
use native.Mathlib.Omega.{arith}
use Rattle.delivery.proofs.Hearing.{medium_length}
use Rattle.replica_calls.proofs.copy.place_of.Goals as goal

pub read_place-requires : goal.read_place-requires
read_place-requires c =
    let a = c.args in
    let p = c.requires in
    let l = medium_length a.shape.places a.i a.media.now p.places_in_bounds in
    rw c.medium_of.ensures (p.i_bound.1, omega (arith, l, p.i_bound.2))

pub returns : goal.returns
returns c = rw (← c.medium_of.ensures) c.read_place.ensures
