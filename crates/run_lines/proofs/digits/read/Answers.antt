-- `digits::read`: the bytes fill what is lent.
-- Assumes nothing.
use mathlib.Core.Path.{◌≡◌, ◌∙◌}
use Prim.Native.Nat.{◌/◌}
use lib.ListN.{length}
use native.Mathlib.Omega.{arith}
use Rattle.octets.proofs.Laws.{write_all}
use Rattle.hex_digits.specs.Hex.{bytes_of}
use Rattle.hex_digits.proofs.Pairs.{bytes_length}
use Rattle.run_lines.proofs.digits.read.Goals as goal

pub returns : goal.returns
returns c =
    let a = c.args in
    let half : length a.s.now / 2 ≡ length a.out.now = omega arith in
    λ _. c.read.ensures ∙ write_all (bytes_of a.s.now) a.out.now (bytes_length a.s.now ∙ half)
