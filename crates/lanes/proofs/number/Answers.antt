-- `lanes::number`: two look-ups for a small number (`small`), eight bytes at once for any other.
-- Assumes nothing.
use mathlib.Core.Path.{ap, ap₂, ◌∙◌}
use mathlib.Core.List.{List}
use Prim.Native.Nat.{ℕ}
use lib.Bits.{bit_xor}
use lib.Seq.{take_all}
use Rattle.octets.specs.Octets.{part, be_bytes}
use Rattle.octets.proofs.Laws.{length_be}
use Rattle.crc32.specs.Crc32.{crc_from}
use Rattle.lanes.specs.Lanes.{after_number}
use Rattle.lanes.proofs.SmallNumbers.{small}
use native.Mathlib.Omega.{arith}
use borrow.Author.Rules.{rules}
use Rattle.lanes.proofs.number.Goals as goal

pub returns-then-n-lt65536 : goal.returns-then-n-lt65536
returns-then-n-lt65536 c = ap (λ (r : ℕ). bit_xor r 0x9add_2096) (ap₂ bit_xor c.entry.ensures c.entry-then-n-lt65536.ensures) ∙ small c.args.n (search rules)

pub returns : goal.returns
unfolding after_number
returns c =
    let n = c.args.n in
    c.eight.ensures ∙ ap (λ (b : List ℕ). crc_from 0xffff_ffff (part 0 8 b)) c.set_be.ensures
    ∙ ap (crc_from 0xffff_ffff) (take_all 8 (be_bytes 8 n) (omega (arith, length_be 8 n)))
