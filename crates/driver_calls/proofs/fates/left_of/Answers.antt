-- `fates::left_of`: a number above 1 leaves the given bytes (`torn_above`).
use mathlib.Core.Path.{sym}
use Rattle.driver_calls.proofs.Codes.{torn_above}
use native.Mathlib.Omega.{arith}
use Rattle.driver_calls.proofs.fates.left_of.Goals as goal

pub returns-in_default : goal.returns-in_default
returns-in_default c = sym (torn_above c.args.l (omega arith))
