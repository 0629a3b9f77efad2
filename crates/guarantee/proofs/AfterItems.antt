-- AFTER EVERY LIST OF ITEMS, as after every list of calls: all that the earlier of two opened sessions ever acknowledges is in the later one's log
-- (`whole_items`; Whole.antt), nothing in a history is written over (`once_items`; Once.antt), a session issues K IDs at most (`interval_items`;
-- Interval.antt), what an open server holds is what its session issued (`in_flight_items`; InFlight.antt), and who is declined by 15 has something left to
-- read or to wait for (`readers_items`; Readers.antt). The conclusions are those files' own; each follows by Recoveries.antt `over_items`.
-- The statements come first, then their proofs.
-- Assumes nothing.
use mathlib.Core.List.{List}
use Rattle.cluster.specs.declared.Shape.{Shape}
use Rattle.cluster.specs.Refusals.{Input}
use Rattle.guarantee.specs.History.{Moment, beginning}
use Rattle.guarantee.specs.Guarantee.{InRange}
use Rattle.guarantee.specs.Recoveries.{Item, along_items, CoveredItems}
use Rattle.guarantee.proofs.Whole.{Found, whole}
use Rattle.guarantee.specs.Once.{New}
use Rattle.guarantee.proofs.Once.{once}
use Rattle.guarantee.specs.Interval.{Within}
use Rattle.guarantee.proofs.Interval.{interval}
use Rattle.guarantee.proofs.InFlight.{Holding, in_flight}
use Rattle.guarantee.specs.Readers.{Unread, Waiting, Unlocked}
use Rattle.guarantee.proofs.Readers.{readers}
use Rattle.guarantee.proofs.Recoveries.{over_items}

-- ================ the statements

-- of the moment after every list of items
abbrev AfterItems : (Shape → Moment → Type 0) → Type 0
AfterItems P = (h : Shape) → InRange h → (is : List Item) → CoveredItems h (beginning h) is → P h (along_items h (beginning h) is)

abbrev pub WholeItems : Type 0
WholeItems = AfterItems (λ h m. Found m.history)

abbrev pub OnceItems : Type 0
OnceItems = AfterItems (λ h m. (p : Input) → New h m.state m.history p)

abbrev pub IntervalItems : Type 0
IntervalItems = AfterItems (λ h m. Within h m.state m.history)

abbrev pub InFlightItems : Type 0
InFlightItems = AfterItems (λ h m. Holding m.state m.history)

abbrev pub ReadersItems : Type 0
ReadersItems = AfterItems (λ h m. Unread h m.state × Waiting h m.state × Unlocked h m.state)

-- ================ their proofs

pub whole_items : WholeItems
whole_items h range = over_items h range (λ m. Found m.history) (whole h range)

pub once_items : OnceItems
once_items h range = over_items h range (λ m. (p : Input) → New h m.state m.history p) (once h range)

pub interval_items : IntervalItems
interval_items h range = over_items h range (λ m. Within h m.state m.history) (interval h range)

pub in_flight_items : InFlightItems
in_flight_items h range = over_items h range (λ m. Holding m.state m.history) (in_flight h range)

pub readers_items : ReadersItems
readers_items h range = over_items h range (λ m. Unread h m.state × Waiting h m.state × Unlocked h m.state) (readers h range)
