-- The list of specs/Checkpoint.antt comes to what is said there: 23 is met, the next session opens, and by the guarantee both bookings that were made
-- before are in its log.
-- Assumes nothing.
use mathlib.Core.Path.{◌≡◌, refl, ap, subst⁻¹}
use mathlib.Core.Bool.{true, false}
use mathlib.Core.Logic.{inl, inr}
use mathlib.Core.List.{List, [], ◌∷◌, ◌++◌}
use mathlib.Core.Option.{some}
use Prim.Native.Nat.{ℕ, ◌*◌, ◌≤◌}
use native.Mathlib.Omega.{arith}
use native.Mathlib.Decide.{ℕ_discrete}
use lib.Dec.{lit<, lit≤}
use lib.ListN.{replicate}
use Rattle.fate.specs.declared.Fate.TheVariants.{Answered}
use Rattle.cluster.specs.declared.Closing.TheVariants.{Unresolved, Mark}
use Rattle.cluster.specs.declared.Entry.{Entry}
use Rattle.cluster.specs.declared.Phase.TheVariants.{Open}
use Rattle.cluster.specs.State.{State, fresh_entry, idle_server, table_size, fresh}
use Rattle.guarantee.specs.History.{Logged, log, History, set_at, told, heard, beginning, along}
use Rattle.guarantee.specs.Guarantee.{InRange, Kept}
use Rattle.guarantee.proofs.Guarantee.{guarantee}
use Rattle.guarantee_example.specs.Checkpoint.{shape, calls_1, calls_2, calls_3, calls, replies_1, replies_2, replies_3, first, second, third}
use Rattle.guarantee_example.proofs.Outline.{Line, outline, retold, ReadAll, FitEach}
use Rattle.guarantee_example.proofs.Worked.{unfolded, lines, opened_at_lem, replies_in, then_lines, told_by, covered, found}
use Rattle.guarantee_example.proofs.Fitting.{issuing_fits, take, prepare, opens, send, stop, fit_then}
use Rattle.guarantee_example.proofs.Written.{three, holding, record_1, record_2, blank, slot_0, slot_1}

-- ================ the states after parts 1 and 2

-- session 1 is open with replicas 0 and 2, which hold these two places; it has issued and acknowledged n
abbrev standing : List ℕ → List ℕ → ℕ → List ℕ → State
standing a b n held =
    let member : Entry = record { session = 1; closing = Unresolved } in
    let absent : Entry = record { session = 0; closing = Mark 0 } in
    let m = slot_0 ++ (slot_1 ++ (a ++ (b ++ (blank ++ blank)))) in
    record {
      records =
          record {
            register = record { session = 1; generation = 0; entries = three fresh_entry member absent member };
            servers =
                record {
                  phase = Open;
                  session = 1;
                  generation = 0;
                  entries = replicate 7 fresh_entry;
                  known = three false true false true;
                  dropped = replicate 7 false;
                  marks = three 0 n 0 n;
                  start = 0;
                  issued = n;
                  acked = n;
                  held = held;
                }
                ∷ idle_server ∷ idle_server ∷ idle_server ∷ [];
          };
      media = m ++ ((slot_0 ++ (slot_0 ++ (blank ++ (blank ++ (blank ++ blank))))) ++ m);
      tables = replicate {A = ℕ} (4 * table_size) 0;
    }

unfoldable state_1 : State
state_1 = standing blank blank 0 (holding 0 [])

unfoldable state_2 : State
state_2 = standing record_1 record_2 2 (holding 2 (record_1 ++ record_2))

-- ================ the parts, worked out

part_1 : outline shape (fresh shape) calls_1 ≡ (opened_at_lem 3 0 1 (lines replies_1), state_1)
unfolding unfolded state_1
part_1 = refl

part_2 : outline shape state_1 calls_2 ≡ (lines replies_2, state_2)
unfolding unfolded state_1 state_2
part_2 = refl

part_3 : (outline shape state_2 calls_3).0 ≡ opened_at_lem 4 2 2 (lines replies_3)
unfolding unfolded state_2
part_3 = refl

-- ================ the whole list

abbrev expected : List Line
expected = opened_at_lem 3 0 1 (lines replies_1) ++ (lines replies_2 ++ opened_at_lem 4 2 2 (lines replies_3))

all_lines : (outline shape (fresh shape) calls).0 ≡ expected
all_lines =
    then_lines shape (fresh shape) state_1 calls_1 (calls_2 ++ calls_3) _ _ part_1
    (then_lines shape state_1 state_2 calls_2 calls_3 _ _ part_2 part_3)

-- the third request of session 1 is declined by 23
pub replied : replies_in (outline shape (fresh shape) calls).0 ≡ replies_1 ++ (replies_2 ++ replies_3)
replied = ap replies_in all_lines

-- ================ its history

unfoldable pub finally : History
finally = (along shape (beginning shape) calls).history

pub record Shown (H : History) : Type 0 where
  pub opened_1 : (H.sessions 1).opened ≡ true
  pub opened_2 : (H.sessions 2).opened ≡ true
  pub start_2 : (H.sessions 2).start ≡ 2
  pub acknowledged_1 : (H.sessions 1).acknowledged ≡ 2
  pub acknowledged_2 : (H.sessions 2).acknowledged ≡ 2
  pub first_1 : log (H.sessions 1) 1 ≡ some first
  pub second_1 : log (H.sessions 1) 2 ≡ some second
  pub third_2 : log (H.sessions 2) 3 ≡ some third

shown_by : Shown (retold shape (fresh shape) calls expected (beginning shape).history)
unfolding retold told heard set_at beginning ℕ_discrete
shown_by =
    record { opened_1 = refl; opened_2 = refl; start_2 = refl; acknowledged_1 = refl; acknowledged_2 = refl; first_1 = refl; second_1 = refl; third_2 = refl }

pub shown : Shown finally
unfolding finally
shown = subst⁻¹ Shown (told_by shape calls expected all_lines) shown_by

-- ================ the guarantee speaks of it

in_range : InRange shape
in_range = record { replicas = inr (inl refl); least = lit≤ tt; most = lit≤ tt; interval_least = lit≤ tt; interval_most = lit≤ tt }

fits_1 : FitEach calls_1
fits_1 = (take 0, (prepare 0 0, (prepare 0 2, (opens 0, tt))))

fits_2 : FitEach calls_2
fits_2 = (
  issuing_fits 0 [] _ (lit< tt, tt),
  (send 0 Answered, (send 2 Answered, (issuing_fits 1 [] [] tt, (send 0 Answered, (send 2 Answered, (issuing_fits 2 [] [] tt, tt)))))),
)

fits_3 : FitEach calls_3
fits_3 = (stop 0, (take 0, (prepare 0 0, (prepare 0 2, (opens 0, (issuing_fits 2 [] [] tt, tt))))))

fits : FitEach calls
fits = fit_then calls_1 (calls_2 ++ calls_3) fits_1 (fit_then calls_2 calls_3 fits_2 fits_3)

-- replica 2 is read by both opens
read_all : ReadAll shape (fresh shape) calls expected (beginning shape).history
unfolding told heard set_at beginning ℕ_discrete
read_all = ((lit< tt, refl), ((lit< tt, refl), tt))

kept : Kept finally
unfolding finally
kept = guarantee shape in_range calls (covered shape calls expected all_lines fits read_all)

-- ================ what it says of it

-- (1) what session 1 acknowledged lies at or below session 2's starting mark
pub start : (finally.sessions 1).acknowledged ≤ (finally.sessions 2).start
start = kept.start 1 2 shown.opened_1 shown.opened_2 (lit< tt)

-- (2) both bookings are in session 2's log
also : (n : ℕ) (x : Logged) → 1 ≤ n → n ≤ 2 → log (finally.sessions 1) n ≡ some x → log (finally.sessions 2) n ≡ some x
also n x lo hi e =
    found finally kept 1 2 n x shown.opened_1 shown.opened_2 lo (omega (arith, shown.acknowledged_1)) (omega (arith, shown.acknowledged_2)) e

pub first_2 : log (finally.sessions 2) 1 ≡ some first
first_2 = also 1 first (lit≤ tt) (lit≤ tt) shown.first_1

pub second_2 : log (finally.sessions 2) 2 ≡ some second
second_2 = also 2 second (lit≤ tt) (lit≤ tt) shown.second_1
