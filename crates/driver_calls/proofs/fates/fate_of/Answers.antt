-- `fates::fate_of`: a number above 2 is a cut (`cut_above`).
use mathlib.Core.Path.{sym}
use Rattle.driver_calls.proofs.Codes.{cut_above}
use native.Mathlib.Omega.{arith}
use Rattle.driver_calls.proofs.fates.fate_of.Goals as goal

pub returns-in_default : goal.returns-in_default
returns-in_default c = rw c.left_of.ensures (sym (cut_above c.args.code (omega arith)))
