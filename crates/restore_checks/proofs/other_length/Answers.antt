-- `other_length`: too few bytes for the slots, or those behind them are no N places (`divided`).
use borrow.Author.Tests.{eq-eqb, ne_eqb}
use Rattle.restore_checks.proofs.Declining.{too_short, divided}
use Rattle.restore_checks.proofs.other_length.Goals as goal

pub returns-then-bytes-lt-SLOTS : goal.returns-then-bytes-lt-SLOTS
returns-then-bytes-lt-SLOTS c = too_short c.args.places c.args.bytes c.if-bytes-lt-SLOTS.true

pub returns-then-rest-places : goal.returns-then-rest-places
returns-then-rest-places c = divided c.args.places c.args.bytes _ c.if-bytes-lt-SLOTS.false (rw (ne_eqb _ _ c.if-rest-places.true))

pub returns-else-rest-places : goal.returns-else-rest-places
returns-else-rest-places c = divided c.args.places c.args.bytes _ c.if-bytes-lt-SLOTS.false (rw (eq-eqb _ _ c.if-rest-places.false))
