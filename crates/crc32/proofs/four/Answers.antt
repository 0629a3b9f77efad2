-- `crc32::four`: four bytes at once, by one law (`four_in`).
-- Assumes nothing.
use mathlib.Core.Path.{sym, ap, ◌∙◌}
use Prim.Native.Nat.{ℕ}
use lib.Bits.{bit_xor}
use Rattle.octets.proofs.Bytes.{bytes_known}
use Rattle.crc32.specs.Crc32.{bit_steps}
use Rattle.crc32.proofs.Words.{four_in}
use Rattle.crc32.proofs.four.Goals as goal

pub returns : goal.returns
returns c =
    let a = c.args in
    let b = bytes_known a.s.now (λ i. (c.type_inv.s i).fits) in
    c.look_up.ensures ∙ ap (λ (n : ℕ). bit_steps 32 (bit_xor a.before n)) c.load.ensures
    ∙ sym (four_in a.before a.at a.s.now b c.requires.at_in_bounds)
