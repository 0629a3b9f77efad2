-- `crc32::crc`. The invariant: the bytes from an offset on, eight for each word behind, from the register as it is, give the result.
-- Assumes nothing.
use mathlib.Core.Path.{refl, sym, ap, ◌∙◌}
use Prim.Native.Nat.{ℕ, ◌+◌}
use lib.ListN.{drop}
use lib.Bits.{bit_xor}
use Rattle.crc32.specs.Crc32.{crc_from, crc_of}
use Rattle.crc32.proofs.Words.{part_in, behind}
use native.Mathlib.Omega.{arith}
use Rattle.crc32.proofs.crc.Goals as goal

pub loop-word-init : goal.loop-word-init
loop-word-init c = (refl, refl)

pub loop-word-preserved : goal.loop-word-preserved
loop-word-preserved c =
    let s = c.args.s.now in
    let l = c.loop-word in (
      omega arith,
      l.invariant.1 ∙ part_in 8 l.r l.at s ∙ ap (λ (n : ℕ). crc_from n (drop (l.at + 8) s)) (sym c.eight-r.ensures),
    )

pub returns : goal.returns
unfolding crc_of
returns c =
    let s = c.args.s.now in
    let l = c.loop-word in
    ap (λ (n : ℕ). bit_xor n 0xffff_ffff) (c.tail.ensures ∙ ap (crc_from l.r) (behind l.at s) ∙ sym l.invariant.1)
