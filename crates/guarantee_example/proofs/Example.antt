-- The list of specs/Example.antt comes to what is said there, and it is one of the guarantee's lists, of which all three conclusions say something.
-- Assumes nothing.
use mathlib.Core.Path.{◌≡◌, refl, ap, subst⁻¹}
use mathlib.Core.Bool.{true}
use mathlib.Core.Logic.{inl, inr}
use mathlib.Core.List.Memᴰ
use mathlib.Core.List.{List, [], ◌++◌}
use mathlib.Core.Option.{some}
use Prim.Native.Nat.{ℕ, ◌≤◌}
use native.Mathlib.Omega.{arith}
use native.Mathlib.Decide.{ℕ_discrete}
use lib.Dec.{lit<, lit≤}
use Rattle.fate.specs.declared.Fate.TheVariants.{Answered, Cut}
use Rattle.fate.specs.declared.Left.TheVariants.{New}
use Rattle.cluster.specs.State.{fresh}
use Rattle.guarantee.specs.History.{Logged, log, History, set_at, told, heard, beginning, along}
use Rattle.guarantee.specs.Guarantee.{InRange, Share, Kept}
use Rattle.guarantee.proofs.Guarantee.{guarantee}
use Rattle.guarantee_example.specs.Elements.{bookings}
use Rattle.guarantee_example.specs.Example.{shape, calls_1, calls_2, calls_3, calls_4, calls_5, calls, replies_1, replies_2, replies_3, replies_4, replies_5, first, second, third}
use Rattle.guarantee_example.proofs.Outline.{Line, outline, retold, ReadAll, FitEach}
use Rattle.guarantee_example.proofs.Worked.{lines, opened_at_lem, replies_in, then_lines, told_by, covered, found}
use Rattle.guarantee_example.proofs.Fitting.{asking_fits, issuing_fits, take, prepare, opens, send, copy, fit_then}
use Rattle.guarantee_example.proofs.States.{state_1, state_2, state_3, state_4}
use Rattle.guarantee_example.proofs.Parts.{part_1, part_2, part_3, part_4, part_5}

-- ================ the whole list

abbrev expected : List Line
expected = opened_at_lem 4 0 1 (lines replies_1) ++ (lines replies_2 ++ (lines replies_3 ++ (lines replies_4 ++ opened_at_lem 1 3 2 (lines replies_5))))

all_lines : (outline shape (fresh shape) calls).0 ≡ expected
all_lines =
    then_lines shape (fresh shape) state_1 calls_1 (calls_2 ++ (calls_3 ++ (calls_4 ++ calls_5))) _ _ part_1
    (then_lines shape state_1 state_2 calls_2 (calls_3 ++ (calls_4 ++ calls_5)) _ _ part_2
    (then_lines shape state_2 state_3 calls_3 (calls_4 ++ calls_5) _ _ part_3 (then_lines shape state_3 state_4 calls_4 calls_5 _ _ part_4 part_5)))

pub replied : replies_in (outline shape (fresh shape) calls).0 ≡ replies_1 ++ (replies_2 ++ (replies_3 ++ (replies_4 ++ replies_5)))
replied = ap replies_in all_lines

-- ================ its history

unfoldable pub finally : History
finally = (along shape (beginning shape) calls).history

pub record Shown (H : History) : Type 0 where
  pub opened_1 : (H.sessions 1).opened ≡ true
  pub opened_2 : (H.sessions 2).opened ≡ true
  pub start_2 : (H.sessions 2).start ≡ 3
  pub acknowledged_1 : (H.sessions 1).acknowledged ≡ 3
  pub acknowledged_2 : (H.sessions 2).acknowledged ≡ 3
  pub first_1 : log (H.sessions 1) 1 ≡ some first
  pub second_1 : log (H.sessions 1) 2 ≡ some second
  pub third_1 : log (H.sessions 1) 3 ≡ some third

shown_by : Shown (retold shape (fresh shape) calls expected (beginning shape).history)
unfolding retold told heard set_at beginning ℕ_discrete
shown_by =
    record { opened_1 = refl; opened_2 = refl; start_2 = refl; acknowledged_1 = refl; acknowledged_2 = refl; first_1 = refl; second_1 = refl; third_1 = refl }

pub shown : Shown finally
unfolding finally
shown = subst⁻¹ Shown (told_by shape calls expected all_lines) shown_by

-- ================ the guarantee speaks of it

in_range : InRange shape
in_range = record { replicas = inr (inl refl); least = lit≤ tt; most = lit≤ tt; interval_least = lit≤ tt; interval_most = lit≤ tt }

fits_1 : FitEach calls_1
fits_1 = (take 0, (prepare 0 0, (prepare 0 1, (prepare 0 2, (opens 0, tt)))))

fits_2 : FitEach calls_2
fits_2 = (issuing_fits 0 _ _ (lit< tt, tt), (send 0 Answered, (send 1 Answered, (send 2 Answered, tt))))

fits_3 : FitEach calls_3
fits_3 = (
  issuing_fits 1 _ [] tt,
  (send 0 Answered, (send 1 Answered, (send 2 (Cut 1 New), (issuing_fits 1 _ [] tt, (issuing_fits 1 _ [] tt, (asking_fits bookings 1 _ [] (lit< tt) tt, (send 0 Answered, tt))))))),
)

fits_4 : FitEach calls_4
fits_4 = (take 1, (prepare 1 0, (prepare 1 2, (opens 1, tt))))

fits_5 : FitEach calls_5
fits_5 = (copy 1 0 2, (opens 1, (send 1 Answered, tt)))

fits : FitEach calls
fits =
    fit_then calls_1 (calls_2 ++ (calls_3 ++ (calls_4 ++ calls_5))) fits_1
    (fit_then calls_2 (calls_3 ++ (calls_4 ++ calls_5)) fits_2
    (fit_then calls_3 (calls_4 ++ calls_5) fits_3 (fit_then calls_4 calls_5 fits_4 fits_5)))

-- replica 2 is read by both opens
read_all : ReadAll shape (fresh shape) calls expected (beginning shape).history
unfolding told heard set_at beginning ℕ_discrete
read_all = ((lit< tt, refl), ((lit< tt, refl), tt))

kept : Kept finally
unfolding finally
kept = guarantee shape in_range calls (covered shape calls expected all_lines fits read_all)

-- ================ what it says of it

-- (1) what session 1 acknowledged, the last of it after session 2 was opened, lies at or below that one's starting mark
pub start : (finally.sessions 1).acknowledged ≤ (finally.sessions 2).start
start = kept.start 1 2 shown.opened_1 shown.opened_2 (lit< tt)

-- (2) and stands in its log
also : (n : ℕ) (x : Logged) → 1 ≤ n → n ≤ 3 → log (finally.sessions 1) n ≡ some x → log (finally.sessions 2) n ≡ some x
also n x lo hi e =
    found finally kept 1 2 n x shown.opened_1 shown.opened_2 lo (omega (arith, shown.acknowledged_1)) (omega (arith, shown.acknowledged_2)) e

pub first_2 : log (finally.sessions 2) 1 ≡ some first
first_2 = also 1 first (lit≤ tt) (lit≤ tt) shown.first_1

pub second_2 : log (finally.sessions 2) 2 ≡ some second
second_2 = also 2 second (lit≤ tt) (lit≤ tt) shown.second_1

pub third_2 : log (finally.sessions 2) 3 ≡ some third
third_2 = also 3 third (lit≤ tt) (lit≤ tt) shown.third_1

-- (3) ID 2 stands above the mark of ID 3's client and below ID 3: they share no lock
pub apart : ¬ Share third.transaction second.transaction
apart = kept.apart 1 3 2 third second shown.opened_1 shown.third_1 shown.second_1 (lit< tt) (lit< tt)

-- It says nothing of an ID at a client's mark, which the client has read: IDs 1 and 2 stand in the same log and share lock 7
pub shared : Share second.transaction first.transaction × (second.transaction.mark ≡ 1)
shared = ((7, Memᴰ.head refl, Memᴰ.head refl), refl)
