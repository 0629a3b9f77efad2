-- `crc32::eight`: eight bytes as two fours, by one law (`eight_in`).
-- Assumes nothing.
use mathlib.Core.Path.{sym, ap, ap₂, ◌∙◌}
use Prim.Native.Nat.{ℕ}
use lib.Bits.{bit_xor}
use Rattle.octets.proofs.Bytes.{bytes_known}
use Rattle.crc32.specs.Crc32.{bit_steps}
use Rattle.crc32.proofs.Words.{eight_in}
use Rattle.crc32.proofs.eight.Goals as goal

pub returns : goal.returns
returns c =
    let a = c.args in
    let b = bytes_known a.s.now (λ i. (c.type_inv.s i).fits) in
    c.look_up.ensures
    ∙ ap₂ (λ (h l : ℕ). bit_xor h (bit_steps 64 (bit_xor a.before l)))
    (c.look_up-upper.ensures ∙ ap (bit_steps 32) c.load.ensures)
    c.load-2.ensures
    ∙ sym (eight_in a.before a.at a.s.now b c.requires.at_in_bounds)
