-- The part of the lent tables that issue reads is the server's table; and 15, by what is found in it.
-- Assumes nothing.
use mathlib.Core.Path.{◌≡◌}
use mathlib.Core.List.{List, [], ◌∷◌}
use Prim.Native.Nat.{ℕ, ◌+◌, ◌-◌, ◌*◌}
use lib.ListN.{take, drop}
use Rattle.std.specs.Prelude.{Option, Some, None}
use Rattle.octets.proofs.Laws.{between_part}
use Rattle.locks.specs.declared.HeldLock.{HeldLock}
use Rattle.cluster.specs.State.{table_size, table_at}
use Rattle.cluster.specs.Refusals.{lock_row, pass, declined, first_of}

-- the server's table among the four: what `&tables[at..end]` refers to
abbrev pub lent_table : ℕ → List ℕ → List ℕ
lent_table i tables = take ((i * table_size + table_size) - i * table_size) (drop (i * table_size) tables)

pub table_is : (i : ℕ) (tables : List ℕ) → lent_table i tables ≡ table_at i tables
table_is i tables = between_part (i * table_size) table_size tables

pub held_declines : (t : Option HeldLock) (l : HeldLock) → t ≡ Some l → declined 15 (l.lock ∷ l.estimate ∷ []) ≡ first_of (lock_row t ∷ [])
unfolding first_of
held_declines t l e = rw e

pub free_passes : (t : Option HeldLock) → t ≡ None → pass ≡ first_of (lock_row t ∷ [])
unfolding first_of
free_passes t e = rw e
