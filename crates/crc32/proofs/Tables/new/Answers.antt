-- `crc32::Tables::new`: the constant is the tables, since antt computes each row by doubling.
-- Assumes nothing.
use Rattle.crc32.specs.Crc32.{bit_step, bit_steps}
use Rattle.crc32.proofs.Rows.{doubled, rows_of, rows}
use Rattle.crc32.proofs.Tables.new.Goals as goal

pub invariant_of-result : goal.invariant_of-result
unfolding rows_of doubled bit_steps bit_step
invariant_of-result c = record { are_steps = rows }
