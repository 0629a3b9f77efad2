-- What open leaves of the lock tables.
-- Assumes nothing.
use Rattle.std.specs.Prelude.{List, cond, ℕ, replicate}
use Rattle.fate.specs.declared.Fate.{Fate}
use Rattle.cluster.specs.State.{table_size, with_table}
use Rattle.cluster.specs.Refusals.{answered}

-- the lock tables after open
abbrev pub tables_after : ℕ → ℕ → Fate → List ℕ → List ℕ
tables_after s d f tables = cond (answered f) (with_table s (replicate table_size d) tables) tables
