-- `locks::lock_place` meets its contract. The top ten bits are the quotient by 2^54, and the factor is read from the table.
-- Assumes nothing.
use native.Mathlib.Omega.{arith}
use Rattle.locks.specs.Locks.{place_of}
use Rattle.locks.proofs.lock_place.Goals as goal

pub returns : goal.returns
unfolding place_of
returns c = (rw c.product.ensures, omega arith)
