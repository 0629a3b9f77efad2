-- `crc32::look_up`. The invariant: look-ups made and still to make are all; what is left of x has a byte for each turn left.
-- Assumes nothing.
use mathlib.Core.Path.{◌≡◌, refl, sym, ap, ◌∙◌}
use Prim.Native.Nat.{◌+◌, ◌-◌, ◌<◌}
use lib.Bits.{bit_xor}
use Rattle.crc32.proofs.Words.{four_out, look_next, look_end, bytes_left, bytes_all}
use native.Mathlib.Omega.{arith}
use Rattle.crc32.proofs.look_up.Goals as goal

pub loop-k-init : goal.loop-k-init
loop-k-init c = (omega arith, bytes_all c.args.width c.args.x c.ranges.x.fits, refl)

pub loop-k-preserved : goal.loop-k-preserved
loop-k-preserved c =
    let a = c.args in
    let l = c.loop-k in
    let g : 0 < l.k + 4 - a.width = omega arith in
    let n : l.k + 4 - a.width - 1 ≡ l.k - 1 + 4 - a.width = omega arith in (
      omega arith,
      rw (← n) (bytes_left (l.k + 4 - a.width) l.y g l.invariant.1),
      l.invariant.2 ∙ look_next a.t.now.entries l.r l.k l.y (omega arith),
    )

pub returns : goal.returns
returns c =
    let l = c.loop-k in
    let z : l.k + 4 - c.args.width ≡ 0 = omega arith in
    sym (look_end c.args.t.now.entries l.r l.k l.y c.args.t.now.are_steps (omega arith) (rw z at l.invariant.1))
    ∙ sym l.invariant.2
    ∙ ap (bit_xor c.args.before) (four_out c.args.t.now.entries c.args.width c.args.x c.args.t.now.are_steps c.requires.le_width.0 c.requires.le_width.1 c.ranges.x.fits)
