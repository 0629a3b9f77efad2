-- `crc32::tail`: if there are four bytes, they come in before those behind them (`part_in`).
-- Assumes nothing.
use mathlib.Core.Path.{sym, ap, ◌∙◌}
use Prim.Native.Nat.{ℕ}
use lib.ListN.{drop}
use Rattle.crc32.specs.Crc32.{crc_from}
use Rattle.crc32.proofs.Words.{part_in, behind}
use Rattle.crc32.proofs.tail.Goals as goal

pub returns : goal.returns
returns c =
    let a = c.args in
    c.single-2.ensures ∙ ap (crc_from c.four.result) (behind 4 a.s.now) ∙ ap (λ (n : ℕ). crc_from n (drop 4 a.s.now)) c.four.ensures
    ∙ sym (part_in 4 a.before 0 a.s.now)
