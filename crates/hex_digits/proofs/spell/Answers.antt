-- `hex_digits::spell`. The invariant: what is written is the spelling of the bytes passed.
-- Assumes nothing.
use mathlib.Core.Path.{refl}
use native.Mathlib.Omega.{arith}
use Rattle.hex_digits.specs.Hex.{hex_of}
use Rattle.hex_digits.proofs.Spelling.{spell_next, hex_end}
use Rattle.hex_digits.proofs.spell.Goals as goal

pub loop-i-init : goal.loop-i-init
unfolding hex_of
loop-i-init c = refl

pub loop-i-preserved : goal.loop-i-preserved
loop-i-preserved c =
    let l = c.loop-i in
    spell_next c.args.b.now l.out l.i _ _ c.loop-i-test.true (omega arith) c.glyph.ensures c.glyph-in-loop-i.ensures l.invariant

pub returns : goal.returns
returns c =
    let l = c.loop-i in
    hex_end c.args.b.now l.out l.i c.loop-i-test.false (omega arith) (omega arith) l.invariant
