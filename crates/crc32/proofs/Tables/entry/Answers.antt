-- `crc32::Tables::entry`: the entries are the tables, whose entries are bit steps.
-- Assumes nothing.
use mathlib.Core.Path.{◌≡◌, ap, ◌∙◌}
use Prim.Native.Nat.{ℕ, suc, ◌+◌, ◌*◌}
use native.Mathlib.Omega.{arith}
use Rattle.crc32.specs.Crc32.{bit_steps}
use Rattle.crc32.proofs.Rows.{entry_at_lem}
use Rattle.crc32.proofs.Tables.entry.Goals as goal

pub returns : goal.returns
returns c =
    let a = c.args in
    let n : suc a.k ≡ a.k + 1 = omega arith in
    entry_at_lem a.self.now.entries a.k a.b a.self.now.are_steps c.requires.0 c.requires.1 ∙ ap (λ (i : ℕ). bit_steps (8 * i) a.b) n
