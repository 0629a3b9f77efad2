-- `crc32::single`. The invariant: the bytes that are still to come, from the register as it is, give the result.
-- Assumes nothing.
use mathlib.Core.Path.{sym, ap, ◌∙◌}
use Prim.Native.Nat.{ℕ, ◌+◌}
use lib.ListN.{get_or, drop}
use lib.Bits.{bit_xor}
use Rattle.crc32.specs.Crc32.{crc_from}
use Rattle.crc32.proofs.Rows.{byte_step_lem}
use Rattle.crc32.proofs.Words.{byte_in, none_in}
use Rattle.crc32.proofs.single.Goals as goal

pub loop-b-preserved : goal.loop-b-preserved
loop-b-preserved c =
    let a = c.args in
    let l = c.loop-b in
    let s = a.s.now in
    let x = bit_xor l.r (get_or s l.b-index 0) in
    rw c.from.ensures
    (l.invariant ∙ byte_in l.r l.b-index s c.loop-b-test.true
    ∙ ap (λ (n : ℕ). crc_from n (drop (l.b-index + 1) s)) (sym (byte_step_lem a.t.now.entries x a.t.now.are_steps)))

pub returns : goal.returns
returns c = sym (c.loop-b.invariant ∙ none_in _ c.loop-b.b-index _ c.loop-b-test.false)
