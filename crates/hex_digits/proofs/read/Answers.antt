-- `hex_digits::read`. The invariant: the bytes left, written behind those written, give the whole.
-- Assumes nothing.
use mathlib.Core.Path.{◌≡◌, refl, ap, sym, ◌∙◌}
use Prim.Native.Nat.{ℕ, ◌+◌, ◌*◌}
use lib.ListN.{drop}
use Rattle.hex_digits.specs.Hex.{is_hex}
use Rattle.hex_digits.proofs.Pairs.{hex_digits, hex_next, hex_read, found, found_is}
use native.Mathlib.Omega.{arith}
use Rattle.hex_digits.proofs.read.Goals as goal

pub loop-i-init : goal.loop-i-init
loop-i-init c = (c.requires.s_value, refl)

pub unwrap-requires : goal.unwrap-requires
unwrap-requires c = found _ _ c.digit.ensures (hex_digits c.args.s.now (2 * c.loop-i.i) (omega arith) c.loop-i.invariant.0).0

pub unwrap-requires-in-loop-i : goal.unwrap-requires-in-loop-i
unwrap-requires-in-loop-i c = found _ _ c.digit-in-loop-i.ensures (hex_digits c.args.s.now (2 * c.loop-i.i) (omega arith) c.loop-i.invariant.0).1

pub loop-i-preserved : goal.loop-i-preserved
loop-i-preserved c =
    let s = c.args.s.now in
    let l = c.loop-i in
    let d = hex_digits s (2 * l.i) (omega arith) l.invariant.0 in
    let q : 2 * l.i + 2 ≡ 2 * (l.i + 1) = omega arith in
    let x = found_is _ _ _ c.digit.ensures c.unwrap.ensures in
    let y = found_is _ _ _ c.digit-in-loop-i.ensures c.unwrap-in-loop-i.ensures in (
      ap (λ (n : ℕ). is_hex (drop n s)) (sym q) ∙ d.2,
      l.invariant.1 ∙ hex_next s l.out l.i _ _ (omega arith) (omega arith) x y,
    )

pub returns : goal.returns
returns c = sym (c.loop-i.invariant.1 ∙ hex_read _ _ _ c.loop-i-test.false)
