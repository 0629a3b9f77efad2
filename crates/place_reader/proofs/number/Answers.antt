-- `place::number`: the part read is four bytes long, so that its number has 32 bits (`length_between`, `between_part`).
use mathlib.Core.Path.{◌≡◌, ap, ◌∙◌}
use Prim.Native.Nat.{◌+◌, ◌-◌}
use Rattle.octets.specs.Octets.{be_of}
use Rattle.octets.proofs.Laws.{length_between, between_part}
use native.Mathlib.Omega.{arith}
use Rattle.place_reader.proofs.number.Goals as goal

pub overflow_cast-result : goal.overflow_cast-result
overflow_cast-result c =
    let a = c.args in
    let l = length_between a.at (a.at + 4) a.s.now (omega arith) c.requires in
    let q : a.at + 4 - a.at ≡ 4 = omega arith in
    let b = c.get_be.ensures.1 in
    omega (arith, rw (l, q) at b)

pub returns : goal.returns
returns c =
    let a = c.args in
    c.get_be.ensures.0 ∙ ap be_of (between_part a.at 4 a.s.now)
