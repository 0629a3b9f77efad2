-- `mark`: the part lent to `mark_all` is server i's table, and what comes back is that table written in place (`table_marked`).
use Rattle.issue.proofs.Issuing.{table_marked}
use native.Mathlib.Omega.{arith}
use Rattle.issue.proofs.mark.Goals as goal

pub returns : goal.returns
returns c =
    let a = c.args in
    let p = c.requires in
    table_marked a.i a.tables.now a.locks.now a.id (omega arith) c.mark_all.ensures
