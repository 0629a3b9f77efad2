-- THE GUARANTEE OVER LISTS WITH RECOVERIES. Document 02, No. 9: "A cut or a loss during it must leave a cluster that later sessions can still trust: a
-- list of demand 3 may hold it, as the calls it makes." Here a list has items: an item is a call, or a recovery by a driver (crate recovery), which
-- stands for the calls that it makes. proofs/Recoveries.antt has the theorem: `with_recoveries : GuaranteeWithRecoveries`.
--
-- What holds is `Kept` of Guarantee.antt, its three conclusions as they stand there. The statement is never weaker than that one (proofs/Items.antt
-- `never_weaker`): a list of calls is a list of items, of which the same is asked and whose history is the same (`calls_alone`). And it gives a recovery no
-- other meaning than its calls, which belong to the list as any others do: a list of items leaves what the calls leave that it stands for (`flattened`).
--
-- The words, and where they are:
--   "as the calls it makes"                    `elements_of`, below: recovery specs/Recovery.antt `calls_of`, of the state that the item before left
--   "Add a driver for an idle server, a list of replicas and one of fates, one a call"  recovery specs/Recovery.antt `Recovery`: any fates, so that each of
--                                              its calls may be cut or lost
--   "A cut or a loss during it must leave a cluster that later sessions can still trust"  `GuaranteeWithRecoveries`, below: for every list of items
--   "(whichever such replica is read)"         document 01; `ReadBy`, below
-- Of a recovery nothing else is asked: one that is declined makes no call, and of another's calls the arguments fit (proofs/Driven.antt `calls_fit`). So no
-- more is asked of it than Guarantee.antt asks of its calls (proofs/NoMore.antt `no_more`).
--
-- Document 02, No. 10: a restore is a call, and so an item of its own. Its bytes may be of any moment between two calls, those of a recovery included, since
-- moments are counted by calls.
--
-- Each list of calls that fit and of recoveries is one of these lists: proofs/ReadableItems.antt `readable_items`. The state that a recovery leaves is the
-- one that crate recovery gives, and it counts for as many calls (proofs/Items.antt `state_equation`). What is shown after every list of calls holds after
-- every list of items (proofs/Recoveries.antt `over_items`; proofs/AfterItems.antt has the theorems beside the guarantee). The crate guarantee_example works
-- a list with three recoveries out.
--
-- The notation is explained at the head of Guarantee.antt. Beside it: `pub data` says which forms a value may have; map f xs is the list of f of each of xs;
-- xs ++ ys is xs and then ys.
-- Assumes nothing.
use Rattle.std.specs.Prelude.{ℕ, ◌<◌, ◌≡◌, true, false, List, [], ◌∷◌, ◌++◌, map}
use Rattle.cluster.specs.declared.Shape.{Shape}
use Rattle.cluster.specs.State.{entry_at}
use Rattle.cluster.specs.Refusals.{Input}
use Rattle.recovery.specs.Recovery.{Recovery, calls_of}
use Rattle.guarantee.specs.History.{Element, Moment, beginning, along}
use Rattle.guarantee.specs.Guarantee.{InRange, Covered, Kept}

-- ================ lists with recoveries

-- one call; or a recovery, with the replica that is read for the starting log of the session that it opens, if it opens one
pub data Item : Type 0 where
  one : Element → Item
  recovery : Recovery → ℕ → Item

-- a call of a recovery, with that replica; it is no restore, so that no moment is read
abbrev pub reading : ℕ → Input → Element
reading a p = record { input = p; reader = a; moment = 0 }

-- "a list of demand 3 may hold it, as the calls it makes": in moment m an item stands for these
abbrev pub elements_of : Shape → Moment → Item → List Element
elements_of h m (one e) = e ∷ []
elements_of h m (recovery d a) = map (reading a) (calls_of h m.state d)

-- what it leaves
unfoldable pub next_item : Shape → Moment → Item → Moment
next_item h m i = along h m (elements_of h m i)

-- "Each call of its list gets register, media, server records and lock tables as the one before left them"
unfoldable pub along_items : Shape → Moment → List Item → Moment
along_items h m [] = m
along_items h m (i ∷ is) = along_items h (next_item h m i) is

-- all the calls that a list stands for
unfoldable pub flat : Shape → Moment → List Item → List Element
flat h m [] = []
flat h m (i ∷ is) = elements_of h m i ++ flat h (next_item h m i) is

-- ================ for which lists

-- A recovery by server s, begun in moment m, has ended in moment k. Its calls "belong to the session that its last take answered". If they opened it, the
-- replica a that is read is one "whose entry this call sets to the session (whichever such replica is read)": the open is the last call of a recovery.
abbrev pub ReadBy : Shape → Moment → Moment → ℕ → ℕ → Type 0
ReadBy h m k s a =
    let z = k.history.current s in
    (m.history.sessions z).opened ≡ false → (k.history.sessions z).opened ≡ true
    → (a < h.replicas) × ((entry_at k.state.records.register.entries a).session ≡ z)

abbrev pub CoveredItem : Shape → Moment → Item → Type 0
CoveredItem h m (one e) = Covered h m e
CoveredItem h m (recovery d a) = ReadBy h m (next_item h m (recovery d a)) d.server a

abbrev pub CoveredItems : Shape → Moment → List Item → Type 0
CoveredItems h m [] = Unit {0}
CoveredItems h m (i ∷ is) = CoveredItem h m i × CoveredItems h (next_item h m i) is

-- ================ what holds

abbrev pub GuaranteeWithRecoveries : Type 0
GuaranteeWithRecoveries = (h : Shape) → InRange h → (is : List Item) → CoveredItems h (beginning h) is
    → Kept (along_items h (beginning h) is).history
