-- `fates::fate_at`: the list of fates read at an index within it (`fate_in`) or behind it (`fate_behind`).
use mathlib.Core.Path.{sym, ap, ◌∙◌}
use borrow.Author.Tests.{ltb-false}
use Rattle.recovery.specs.Asked.{fate_of}
use Rattle.driver_calls.proofs.Codes.{fate_in, fate_behind}
use Rattle.driver_calls.proofs.fates.fate_at.Goals as goal

pub returns-in-Some : goal.returns-in-Some
returns-in-Some c = let a = c.args in c.fate_of.ensures ∙ ap fate_of (c.in-Some.ensures.lookup.3.1 0) ∙ fate_in a.fates.now a.k

pub returns-in-None : goal.returns-in-None
returns-in-None c = let a = c.args in fate_behind a.fates.now a.k (ltb-false _ _ (sym c.in-None.ensures.lookup.0))
