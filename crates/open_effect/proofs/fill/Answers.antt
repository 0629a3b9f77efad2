-- `fill`, by whether the message is answered: then the part that comes back filled is server i's table (`mid_write`).
use mathlib.Core.Path.{sym, ap, ◌∙◌}
use Prim.Native.Nat.{ℕ, ◌+◌, ◌*◌}
use lib.ListN.{replicate, length-replicate}
use Rattle.octets.proofs.Laws.{mid_write}
use Rattle.open_effect.proofs.fill.Goals as goal

pub returns-then-is_answered : goal.returns-then-is_answered
returns-then-is_answered c =
    let a = c.args in
    let filled = mid_write (a.i * 1024) (a.i * 1024 + 1024) a.tables.now _ (replicate 1024 a.d) (ap (λ (n : ℕ). a.i * 1024 + n) (length-replicate {A = ℕ} 1024 a.d)) c.fill_table.ensures in
    rw (sym c.is_answered.ensures ∙ c.if-is_answered.true) filled
