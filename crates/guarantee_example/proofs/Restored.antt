-- The list of specs/Restored.antt comes to what is said there: replica 2 has lost the booking and does not vote, the next session opens with it and reads it,
-- and by the guarantee the booking is in its log.
-- Assumes nothing.
use mathlib.Core.Path.{◌≡◌, refl, sym, ap, ◌∙◌, subst⁻¹}
use mathlib.Core.Bool.{true, false}
use mathlib.Core.Logic.{inl, inr}
use mathlib.Core.List.{List, [], ◌∷◌, ◌++◌}
use mathlib.Core.Option.{some}
use Prim.Native.Nat.{ℕ, ◌*◌, ◌≤◌}
use native.Mathlib.Omega.{arith}
use native.Mathlib.Decide.{ℕ_discrete}
use lib.Dec.{lit<, lit≤}
use lib.ListN.{replicate}
use Rattle.fate.specs.declared.Fate.TheVariants.{Answered}
use Rattle.storage.specs.Operations.{medium_at}
use Rattle.cluster.specs.declared.Closing.TheVariants.{Unresolved, Mark, Restored}
use Rattle.cluster.specs.declared.Entry.{Entry}
use Rattle.cluster.specs.declared.Phase.TheVariants.{Open}
use Rattle.cluster.specs.declared.Server.{Server}
use Rattle.cluster.specs.State.{State, fresh_entry, idle_server, table_size, fresh}
use Rattle.cluster.specs.Refusals.{other_length}
use Rattle.cluster.specs.Effects.{restore_effect}
use Rattle.guarantee.specs.History.{log, History, set_at, told, heard, beginning, along}
use Rattle.guarantee.specs.Guarantee.{InRange, Kept}
use Rattle.guarantee.proofs.Guarantee.{guarantee}
use Rattle.guarantee_example.specs.Restored.{shape, calls_1, calls_2, calls_3, calls_4, calls, backup, replies_1, replies_2, replies_3, replies_4, first}
use Rattle.guarantee_example.proofs.Outline.{Line, outline, retold, ReadAll, FitEach}
use Rattle.guarantee_example.proofs.Worked.{unfolded, lines, opened_at_lem, replies_in, then_lines, told_by, covered, found}
use Rattle.guarantee_example.proofs.Fitting.{issuing_fits, restoring_fits, take, prepare, opens, send, copy, fit_then}
use Rattle.guarantee_example.proofs.Written.{three, holding, record_1, blank, slot_0, slot_1, slot_2}

-- ================ the states after parts 1 to 3

abbrev medium : List ℕ → List ℕ → List ℕ → List ℕ
medium p q a = p ++ (q ++ (a ++ blank))

-- session 1 is open with replicas 0 and 2; it has issued and acknowledged n
abbrev serving : ℕ → List ℕ → Server
serving n held =
    record {
      phase = Open;
      session = 1;
      generation = 0;
      entries = replicate 7 fresh_entry;
      known = three false true false true;
      dropped = replicate 7 false;
      marks = three 0 n 0 n;
      start = 0;
      issued = n;
      acked = n;
      held = held;
    }

-- the register has this session, and this entry and medium of replica 2; replica 0 has this place
abbrev standing : ℕ → Entry → Server → List ℕ → List ℕ → State
standing session entry server place other =
    let member : Entry = record { session = 1; closing = Unresolved } in
    let absent : Entry = record { session = 0; closing = Mark 0 } in
    record {
      records =
          record {
            register = record { session = session; generation = 0; entries = three fresh_entry member absent entry };
            servers = server ∷ idle_server ∷ idle_server ∷ idle_server ∷ [];
          };
      media = medium slot_0 slot_1 place ++ (medium slot_0 slot_0 blank ++ other);
      tables = replicate {A = ℕ} (4 * table_size) 0;
    }

unfoldable state_1 : State
state_1 = standing 1 (record { session = 1; closing = Unresolved }) (serving 0 (holding 0 [])) blank (medium slot_0 slot_1 blank)

unfoldable state_2 : State
state_2 = standing 1 (record { session = 1; closing = Unresolved }) (serving 1 (holding 1 record_1)) record_1 (medium slot_0 slot_1 record_1)

-- replica 2 promises session 2 in both slots; server 0 still counts it
unfoldable state_3 : State
state_3 = standing 2 (record { session = 1; closing = Restored }) (serving 1 (holding 1 record_1)) record_1 (medium slot_2 slot_2 blank)

-- ================ the parts, worked out

part_1 : outline shape (fresh shape) calls_1 ≡ (opened_at_lem 3 0 1 (lines replies_1), state_1)
unfolding unfolded state_1
part_1 = refl

part_2 : outline shape state_1 calls_2 ≡ (lines replies_2, state_2)
unfolding unfolded state_1 state_2
part_2 = refl

part_3 : outline shape state_2 calls_3 ≡ (lines replies_3, state_3)
unfolding unfolded other_length restore_effect state_2 state_3
part_3 = refl

part_4 : (outline shape state_3 calls_4).0 ≡ opened_at_lem 8 1 3 (lines replies_4)
unfolding unfolded state_3
part_4 = refl

-- ================ the whole list

abbrev expected : List Line
expected = opened_at_lem 3 0 1 (lines replies_1) ++ (lines replies_2 ++ (lines replies_3 ++ opened_at_lem 8 1 3 (lines replies_4)))

all_lines : (outline shape (fresh shape) calls).0 ≡ expected
all_lines =
    then_lines shape (fresh shape) state_1 calls_1 (calls_2 ++ (calls_3 ++ calls_4)) _ _ part_1
    (then_lines shape state_1 state_2 calls_2 (calls_3 ++ calls_4) _ _ part_2
    (then_lines shape state_2 state_3 calls_3 calls_4 _ _ part_3 part_4))

pub replied : replies_in (outline shape (fresh shape) calls).0 ≡ replies_1 ++ (replies_2 ++ (replies_3 ++ replies_4))
replied = ap replies_in all_lines

-- ================ its history

unfoldable pub finally : History
finally = (along shape (beginning shape) calls).history

pub record Shown (H : History) : Type 0 where
  pub opened_1 : (H.sessions 1).opened ≡ true
  pub opened_2 : (H.sessions 2).opened ≡ false
  pub opened_3 : (H.sessions 3).opened ≡ true
  pub start_3 : (H.sessions 3).start ≡ 1
  pub acknowledged_1 : (H.sessions 1).acknowledged ≡ 1
  pub acknowledged_3 : (H.sessions 3).acknowledged ≡ 1
  pub first_1 : log (H.sessions 1) 1 ≡ some first

shown_by : Shown (retold shape (fresh shape) calls expected (beginning shape).history)
unfolding retold told heard set_at beginning ℕ_discrete
shown_by =
    record { opened_1 = refl; opened_2 = refl; opened_3 = refl; start_3 = refl; acknowledged_1 = refl; acknowledged_3 = refl; first_1 = refl }

pub shown : Shown finally
unfolding finally
shown = subst⁻¹ Shown (told_by shape calls expected all_lines) shown_by

-- ================ the guarantee speaks of it

in_range : InRange shape
in_range = record { replicas = inr (inl refl); least = lit≤ tt; most = lit≤ tt; interval_least = lit≤ tt; interval_most = lit≤ tt }

fits_1 : FitEach calls_1
fits_1 = (take 0, (prepare 0 0, (prepare 0 2, (opens 0, tt))))

fits_2 : FitEach calls_2
fits_2 = (issuing_fits 0 [] _ (lit< tt, tt), (send 0 Answered, (send 2 Answered, tt)))

fits_3 : FitEach calls_3
fits_3 = (restoring_fits 2 backup 4, tt)

fits_4 : FitEach calls_4
fits_4 = (take 1, (prepare 1 2, (prepare 1 1, (prepare 1 0, (opens 1, (copy 1 0 2, (copy 1 2 1, (copy 1 0 1, (opens 1, tt)))))))))

fits : FitEach calls
fits =
    fit_then calls_1 (calls_2 ++ (calls_3 ++ calls_4)) fits_1
    (fit_then calls_2 (calls_3 ++ calls_4) fits_2 (fit_then calls_3 calls_4 fits_3 fits_4))

-- replica 2 held these bytes after part 1
written : backup ≡ medium_at 2 2 state_1.media
unfolding unfolded state_1
written = refl

held_then : backup ≡ medium_at 2 2 (outline shape (fresh shape) calls_1).1.media
held_then = written ∙ ap (λ (o : List Line × State). medium_at 2 2 o.1.media) (sym part_1)

-- replica 2 is read by both opens; the bytes of the restore are those of the moment after four calls
read_all : ReadAll shape (fresh shape) calls expected (beginning shape).history
unfolding told heard set_at beginning ℕ_discrete outline
read_all = ((lit< tt, refl), ((lit≤ tt, held_then), ((lit< tt, refl), tt)))

kept : Kept finally
unfolding finally
kept = guarantee shape in_range calls (covered shape calls expected all_lines fits read_all)

-- ================ what it says of it

-- (1) what session 1 acknowledged lies at or below session 3's starting mark
pub start : (finally.sessions 1).acknowledged ≤ (finally.sessions 3).start
start = kept.start 1 3 shown.opened_1 shown.opened_3 (lit< tt)

-- (2) the booking is in session 3's log, which is read on the replica that was restored
pub first_3 : log (finally.sessions 3) 1 ≡ some first
first_3 =
    found finally kept 1 3 1 first shown.opened_1 shown.opened_3 (lit≤ tt) (omega (arith, shown.acknowledged_1)) (omega (arith, shown.acknowledged_3))
    shown.first_1
