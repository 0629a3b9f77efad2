-- The list of specs/InFlight.antt comes to what is said there: a lock's next writer waits at 15, a server is stopped with three records in flight, and the
-- next session opens at the mark that a majority had. By the guarantee what was acknowledged is in its log.
-- Assumes nothing.
use mathlib.Core.Path.{◌≡◌, refl, ap, subst⁻¹}
use mathlib.Core.Bool.{true, false}
use mathlib.Core.Logic.{inl, inr}
use mathlib.Core.List.Memᴰ
use mathlib.Core.List.{List, [], ◌∷◌, ◌++◌}
use mathlib.Core.Option.{some}
use Prim.Native.Nat.{ℕ, ◌*◌, ◌≤◌}
use native.Mathlib.Omega.{arith}
use native.Mathlib.Decide.{ℕ_discrete}
use lib.Dec.{lit<, lit≤}
use lib.ListN.{replicate}
use Rattle.fate.specs.declared.Fate.TheVariants.{Answered, AnswerLost}
use Rattle.locks.specs.Locks.{marked_all}
use Rattle.cluster.specs.State.{State, idle_server, table_size, fresh}
use Rattle.guarantee.specs.History.{log, History, set_at, told, heard, beginning, along}
use Rattle.guarantee.specs.Guarantee.{InRange, Share, Kept}
use Rattle.guarantee.proofs.Guarantee.{guarantee}
use Rattle.guarantee_example.specs.InFlight.{shape, calls_1, calls_2, calls_3, calls_4, calls_5, calls_6, calls, replies_1, replies_2, replies_3, replies_4, replies_5, replies_6, first, second, third, fourth}
use Rattle.guarantee_example.proofs.Outline.{Line, outline, retold, ReadAll, FitEach}
use Rattle.guarantee_example.proofs.Worked.{unfolded, lines, opened_at_lem, replies_in, then_lines, told_by, covered, found}
use Rattle.guarantee_example.proofs.Fitting.{issuing_fits, take, prepare, opens, send, copy, stop, fit_then}
use Rattle.guarantee_example.proofs.Written.{three, register, server_0, server_1, holding, record_1, record_2, record_3, record_4, blank, slot_0, slot_1, slot_2}

-- ================ the states after parts 1 to 5

-- a medium with this first slot and these places; place 4 stays empty
abbrev medium : List ℕ → List ℕ → List ℕ → List ℕ → List ℕ
medium slot a b c = slot ++ (slot_1 ++ (a ++ (b ++ (c ++ blank))))

-- session 1 is open with all three, of which two have the record in their first place; it has issued n records and acknowledged so many
abbrev serving : List ℕ → List ℕ → ℕ → ℕ → List ℕ → List ℕ → State
serving place marks n acked records table =
    let m = medium slot_0 place blank blank in
    record {
      records =
          record {
            register = register 1;
            servers = server_0 (replicate 7 false) marks n acked (holding n records) ∷ idle_server ∷ idle_server ∷ idle_server ∷ [];
          };
      media = m ++ (m ++ medium slot_0 blank blank blank);
      tables = table ++ replicate {A = ℕ} (3 * table_size) 0;
    }

-- ID 1 enters lock 7, ID 2 lock 5, ID 3 lock 7
abbrev table_1 : List ℕ
table_1 = replicate {A = ℕ} table_size 0

abbrev table_2 : List ℕ
table_2 = marked_all (marked_all table_1 (7 ∷ []) 1) (5 ∷ []) 2

abbrev table_3 : List ℕ
table_3 = marked_all table_2 (7 ∷ []) 3

unfoldable state_1 : State
state_1 = serving blank (replicate 7 0) 0 0 [] table_1

unfoldable state_2 : State
state_2 = serving blank (replicate 7 0) 2 0 (record_1 ++ record_2) table_2

unfoldable state_3 : State
state_3 = serving record_1 (three 0 1 1 0) 4 1 (record_1 ++ (record_2 ++ (record_3 ++ record_4))) table_3

-- the replicas have three, two and one; the server is stopped
unfoldable state_4 : State
state_4 =
    record {
      records = record { register = register 1; servers = idle_server ∷ idle_server ∷ idle_server ∷ idle_server ∷ [] };
      media = medium slot_0 record_1 record_2 record_3 ++ (medium slot_0 record_1 record_2 blank ++ medium slot_0 record_1 blank blank);
      tables = table_3 ++ replicate {A = ℕ} (3 * table_size) 0;
    }

-- replicas 1 and 2 promise session 2
unfoldable state_5 : State
state_5 =
    record {
      records =
          record {
            register = register 2;
            servers = idle_server ∷ server_1 (three false false true true) (three 0 0 2 1) ∷ idle_server ∷ idle_server ∷ [];
          };
      media = medium slot_0 record_1 record_2 record_3 ++ (medium slot_2 record_1 record_2 blank ++ medium slot_2 record_1 blank blank);
      tables = table_3 ++ replicate {A = ℕ} (3 * table_size) 0;
    }

-- ================ the parts, worked out

part_1 : outline shape (fresh shape) calls_1 ≡ (opened_at_lem 4 0 1 (lines replies_1), state_1)
unfolding unfolded state_1
part_1 = refl

part_2 : outline shape state_1 calls_2 ≡ (lines replies_2, state_2)
unfolding unfolded state_1 state_2
part_2 = refl

part_3 : outline shape state_2 calls_3 ≡ (lines replies_3, state_3)
unfolding unfolded state_2 state_3
part_3 = refl

part_4 : outline shape state_3 calls_4 ≡ (lines replies_4, state_4)
unfolding unfolded state_3 state_4
part_4 = refl

part_5 : outline shape state_4 calls_5 ≡ (lines replies_5, state_5)
unfolding unfolded state_4 state_5
part_5 = refl

part_6 : (outline shape state_5 calls_6).0 ≡ opened_at_lem 2 2 2 (lines replies_6)
unfolding unfolded state_5
part_6 = refl

-- ================ the whole list

abbrev expected : List Line
expected =
    opened_at_lem 4 0 1 (lines replies_1)
    ++ (lines replies_2 ++ (lines replies_3 ++ (lines replies_4 ++ (lines replies_5 ++ opened_at_lem 2 2 2 (lines replies_6)))))

all_lines : (outline shape (fresh shape) calls).0 ≡ expected
all_lines =
    then_lines shape (fresh shape) state_1 calls_1 (calls_2 ++ (calls_3 ++ (calls_4 ++ (calls_5 ++ calls_6)))) _ _ part_1
    (then_lines shape state_1 state_2 calls_2 (calls_3 ++ (calls_4 ++ (calls_5 ++ calls_6))) _ _ part_2
    (then_lines shape state_2 state_3 calls_3 (calls_4 ++ (calls_5 ++ calls_6)) _ _ part_3
    (then_lines shape state_3 state_4 calls_4 (calls_5 ++ calls_6) _ _ part_4 (then_lines shape state_4 state_5 calls_5 calls_6 _ _ part_5 part_6))))

-- the next writer of lock 7 is declined by 15 twice and then granted; session 2 opens at 2
pub replied : replies_in (outline shape (fresh shape) calls).0 ≡ replies_1 ++ (replies_2 ++ (replies_3 ++ (replies_4 ++ (replies_5 ++ replies_6))))
replied = ap replies_in all_lines

-- ================ its history

unfoldable pub finally : History
finally = (along shape (beginning shape) calls).history

pub record Shown (H : History) : Type 0 where
  pub opened_1 : (H.sessions 1).opened ≡ true
  pub opened_2 : (H.sessions 2).opened ≡ true
  pub start_2 : (H.sessions 2).start ≡ 2
  pub acknowledged_1 : (H.sessions 1).acknowledged ≡ 1
  pub acknowledged_2 : (H.sessions 2).acknowledged ≡ 2
  pub first_1 : log (H.sessions 1) 1 ≡ some first
  pub second_1 : log (H.sessions 1) 2 ≡ some second
  pub third_1 : log (H.sessions 1) 3 ≡ some third
  pub fourth_1 : log (H.sessions 1) 4 ≡ some fourth

shown_by : Shown (retold shape (fresh shape) calls expected (beginning shape).history)
unfolding retold told heard set_at beginning ℕ_discrete
shown_by =
    record {
      opened_1 = refl;
      opened_2 = refl;
      start_2 = refl;
      acknowledged_1 = refl;
      acknowledged_2 = refl;
      first_1 = refl;
      second_1 = refl;
      third_1 = refl;
      fourth_1 = refl;
    }

pub shown : Shown finally
unfolding finally
shown = subst⁻¹ Shown (told_by shape calls expected all_lines) shown_by

-- ================ the guarantee speaks of it

in_range : InRange shape
in_range = record { replicas = inr (inl refl); least = lit≤ tt; most = lit≤ tt; interval_least = lit≤ tt; interval_most = lit≤ tt }

fits_1 : FitEach calls_1
fits_1 = (take 0, (prepare 0 0, (prepare 0 1, (prepare 0 2, (opens 0, tt)))))

fits_2 : FitEach calls_2
fits_2 = (issuing_fits 0 _ _ (lit< tt, tt), (issuing_fits 0 _ [] tt, (issuing_fits 0 _ [] tt, tt)))

fits_3 : FitEach calls_3
fits_3 = (send 0 Answered, (send 1 Answered, (issuing_fits 0 _ [] tt, (issuing_fits 1 _ [] tt, (issuing_fits 1 [] [] tt, tt)))))

fits_4 : FitEach calls_4
fits_4 = (send 0 Answered, (send 0 Answered, (send 1 AnswerLost, (send 2 Answered, (stop 0, tt)))))

fits_5 : FitEach calls_5
fits_5 = (take 1, (prepare 1 1, (prepare 1 2, (opens 1, tt))))

fits_6 : FitEach calls_6
fits_6 = (prepare 1 0, (copy 1 0 2, (opens 1, tt)))

fits : FitEach calls
fits =
    fit_then calls_1 (calls_2 ++ (calls_3 ++ (calls_4 ++ (calls_5 ++ calls_6)))) fits_1
    (fit_then calls_2 (calls_3 ++ (calls_4 ++ (calls_5 ++ calls_6))) fits_2
    (fit_then calls_3 (calls_4 ++ (calls_5 ++ calls_6)) fits_3
    (fit_then calls_4 (calls_5 ++ calls_6) fits_4 (fit_then calls_5 calls_6 fits_5 fits_6))))

-- replica 2 is read by both opens
read_all : ReadAll shape (fresh shape) calls expected (beginning shape).history
unfolding told heard set_at beginning ℕ_discrete
read_all = ((lit< tt, refl), ((lit< tt, refl), tt))

kept : Kept finally
unfolding finally
kept = guarantee shape in_range calls (covered shape calls expected all_lines fits read_all)

-- ================ what it says of it

-- (1) what session 1 acknowledged lies at or below session 2's starting mark, which is above it: ID 2 was in flight, and a majority had it
pub start : (finally.sessions 1).acknowledged ≤ (finally.sessions 2).start
start = kept.start 1 2 shown.opened_1 shown.opened_2 (lit< tt)

-- (2) and stands in its log
pub first_2 : log (finally.sessions 2) 1 ≡ some first
first_2 =
    found finally kept 1 2 1 first shown.opened_1 shown.opened_2 (lit≤ tt) (omega (arith, shown.acknowledged_1))
    (omega (arith, shown.acknowledged_2)) shown.first_1

-- (3) ID 2, in flight when ID 3 was issued, stands above the mark of ID 3's client and below ID 3: they share no lock
pub apart : ¬ Share third.transaction second.transaction
apart = kept.apart 1 3 2 third second shown.opened_1 shown.third_1 shown.second_1 (lit< tt) (lit< tt)

-- IDs 1 and 3 share lock 7: ID 3's client had read ID 1 when it asked
pub shared : Share third.transaction first.transaction × (third.transaction.mark ≡ 1)
shared = ((7, Memᴰ.head refl, Memᴰ.head refl), refl)
