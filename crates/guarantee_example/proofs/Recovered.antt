-- The list of specs/Recovered.antt comes to what is said there: the second recovery's prepare is cut and its copy is lost, its open meets 8, and the third one
-- opens. By the guarantee over lists with recoveries what session 1 acknowledged is in session 3's log.
-- Assumes nothing.
use mathlib.Core.Path.{◌≡◌, refl, ap, ◌∙◌, subst⁻¹}
use mathlib.Core.Bool.{true, false}
use mathlib.Core.Logic.{inl, inr}
use mathlib.Core.List.{List, [], ◌∷◌, ◌++◌, map}
use mathlib.Core.Option.{some}
use Prim.Native.Nat.{ℕ, ◌*◌, ◌≤◌}
use native.Mathlib.Omega.{arith}
use native.Mathlib.Decide.{ℕ_discrete}
use lib.Dec.{lit<, lit≤}
use lib.ListN.{replicate}
use Rattle.fate.specs.declared.Fate.TheVariants.{Answered, Lost, Cut}
use Rattle.fate.specs.declared.Left.TheVariants.{New}
use Rattle.cluster.specs.declared.Closing.TheVariants.{Unresolved, Mark}
use Rattle.cluster.specs.declared.Entry.{Entry}
use Rattle.cluster.specs.declared.Register.{Register}
use Rattle.cluster.specs.declared.Phase.TheVariants.{Opening, Open}
use Rattle.cluster.specs.declared.Server.{Server}
use Rattle.cluster.specs.State.{State, fresh_entry, idle_server, table_size, fresh}
use Rattle.cluster.specs.Replies.{no}
use Rattle.recovery.specs.Recovery.{played, fate_at, given_at, prepares, highest_known, first_at, copies, all_copies, after_take, from_take, contains, repeats, not_below, begun, calls_of, recovered}
use Rattle.guarantee.specs.History.{log, History, set_at, told, heard, Moment, beginning, along}
use Rattle.guarantee.specs.Guarantee.{InRange, CoveredAll, Kept}
use Rattle.guarantee.specs.Recoveries.{reading, along_items, flat, CoveredItems}
use Rattle.guarantee.proofs.Items.{flattened}
use Rattle.guarantee.proofs.NoMore.{no_more}
use Rattle.guarantee.proofs.Recoveries.{with_recoveries}
use Rattle.guarantee_example.specs.Elements.{value}
use Rattle.guarantee_example.specs.Recovered.{shape, recovery_1, recovery_3, recovery_4, items, calls_1, calls_2, calls_3, calls_4, calls, replies_1, replies_2, replies_3, replies_4, first}
use Rattle.guarantee_example.proofs.Outline.{Line, outline, retold, ReadAll, FitEach}
use Rattle.guarantee_example.proofs.Worked.{unfolded, lines, opened_at_lem, replies_in, then_lines, told_by, covered, found}
use Rattle.guarantee_example.proofs.Fitting.{issuing_fits, bare_take, bare_prepare, bare_copy, bare_open, send, fit_then}
use Rattle.guarantee_example.proofs.Flat.{no_items, then_recovery, then_calls, gives}
use Rattle.guarantee_example.proofs.Written.{three, holding, record_1, blank, slot_0, slot_1, slot_2}

-- ================ the states after parts 1 to 3

abbrev medium : List ℕ → List ℕ → List ℕ → List ℕ
medium p q a = p ++ (q ++ (a ++ blank))

-- session 1 is open with replicas 0 and 1
abbrev registered : ℕ → Register
registered session =
    let member : Entry = record { session = 1; closing = Unresolved } in
    let absent : Entry = record { session = 0; closing = Mark 0 } in
    record { session = session; generation = 0; entries = three fresh_entry member member absent }

-- it has issued and acknowledged n
abbrev serving : ℕ → List ℕ → Server
serving n records =
    record {
      phase = Open;
      session = 1;
      generation = 0;
      entries = replicate 7 fresh_entry;
      known = three false true true false;
      dropped = replicate 7 false;
      marks = three 0 n n 0;
      start = 0;
      issued = n;
      acked = n;
      held = holding n records;
    }

abbrev opened : List ℕ → ℕ → List ℕ → State
opened place n records =
    let m = medium slot_0 slot_1 place in
    record {
      records = record { register = registered 1; servers = serving n records ∷ idle_server ∷ idle_server ∷ idle_server ∷ [] };
      media = m ++ (m ++ medium slot_0 slot_0 blank);
      tables = replicate {A = ℕ} (4 * table_size) 0;
    }

unfoldable pub state_1 : State
state_1 = opened blank 0 []

unfoldable pub state_2 : State
state_2 = opened record_1 1 record_1

-- all three promise session 2, which knows replica 1 alone
unfoldable pub state_3 : State
state_3 =
    let knowing : Server =
    record {
      phase = Opening;
      session = 2;
      generation = 0;
      entries = (registered 1).entries;
      known = three false false true false;
      dropped = replicate 7 false;
      marks = three 0 0 1 0;
      start = 0;
      issued = 0;
      acked = 0;
      held = idle_server.held;
    } in
    let m = medium slot_2 slot_1 record_1 in
    record {
      records = record { register = registered 2; servers = serving 1 record_1 ∷ knowing ∷ idle_server ∷ idle_server ∷ [] };
      media = m ++ (m ++ medium slot_0 slot_2 blank);
      tables = replicate {A = ℕ} (4 * table_size) 0;
    }

-- ================ the parts, worked out

part_1 : outline shape (fresh shape) (map (reading 1) calls_1) ≡ (opened_at_lem 4 0 1 (lines replies_1), state_1)
unfolding unfolded state_1
part_1 = refl

part_2 : outline shape state_1 calls_2 ≡ (lines replies_2, state_2)
unfolding unfolded state_1 state_2
part_2 = refl

part_3 : outline shape state_2 (map (reading 0) calls_3) ≡ (lines replies_3, state_3)
unfolding unfolded state_2 state_3
part_3 = refl

part_4 : (outline shape state_3 (map (reading 2) calls_4)).0 ≡ opened_at_lem 4 1 3 (lines replies_4)
unfolding unfolded state_3
part_4 = refl

-- ================ the recoveries make these calls

-- to unfold this is to unfold a recovery
unfoldable driving : ℕ
unfolding
    unfolded calls_of from_take after_take prepares played copies all_copies highest_known first_at begun fate_at given_at contains repeats not_below
driving = 0

made_1 : calls_of shape (fresh shape) recovery_1 ≡ calls_1
unfolding driving
made_1 = refl

made_3 : calls_of shape state_2 recovery_3 ≡ calls_3
unfolding driving state_2
made_3 = refl

made_4 : calls_of shape state_3 recovery_4 ≡ calls_4
unfolding driving state_3
made_4 = refl

-- "It gives the last reply and its count of calls.": the first and the third open, with 2 + listed replicas + what these lacked; the second meets 8
pub given_1 : ((recovered shape (fresh shape) recovery_1).reply ≡ value 0) × ((recovered shape (fresh shape) recovery_1).count ≡ 5)
given_1 = gives shape (fresh shape) recovery_1 1 calls_1 _ made_1 (ap (λ (o : List Line × State). o.0) part_1)

pub given_3 : ((recovered shape state_2 recovery_3).reply ≡ no 8 []) × ((recovered shape state_2 recovery_3).count ≡ 6)
given_3 = gives shape state_2 recovery_3 0 calls_3 _ made_3 (ap (λ (o : List Line × State). o.0) part_3)

pub given_4 : ((recovered shape state_3 recovery_4).reply ≡ value 1) × ((recovered shape state_3 recovery_4).count ≡ 5)
given_4 = gives shape state_3 recovery_4 2 calls_4 _ made_4 part_4

-- so the list stands for these calls
pub stands_for : flat shape (beginning shape) items ≡ calls
unfolding beginning
stands_for =
    then_recovery shape (fresh shape) state_1 recovery_1 1 calls_1 _ _ made_1 (ap (λ (o : List Line × State). o.1) part_1)
    (then_calls shape state_1 state_2 calls_2 _ _ (ap (λ (o : List Line × State). o.1) part_2)
    (then_recovery shape state_2 state_3 recovery_3 0 calls_3 _ _ made_3 (ap (λ (o : List Line × State). o.1) part_3)
    (then_recovery shape state_3 _ recovery_4 2 calls_4 _ _ made_4 refl (no_items shape _)))) (beginning shape) refl

-- ================ the whole list

abbrev expected : List Line
expected =
    opened_at_lem 4 0 1 (lines replies_1) ++ (lines replies_2 ++ (lines replies_3 ++ opened_at_lem 4 1 3 (lines replies_4)))

all_lines : (outline shape (fresh shape) calls).0 ≡ expected
all_lines =
    then_lines shape (fresh shape) state_1 (map (reading 1) calls_1) (calls_2 ++ (map (reading 0) calls_3 ++ map (reading 2) calls_4)) _ _ part_1
    (then_lines shape state_1 state_2 calls_2 (map (reading 0) calls_3 ++ map (reading 2) calls_4) _ _ part_2
    (then_lines shape state_2 state_3 (map (reading 0) calls_3) (map (reading 2) calls_4) _ _ part_3 part_4))

pub replied : replies_in (outline shape (fresh shape) calls).0 ≡ replies_1 ++ (replies_2 ++ (replies_3 ++ replies_4))
replied = ap replies_in all_lines

-- ================ its history

unfoldable pub finally : History
finally = (along_items shape (beginning shape) items).history

pub record Shown (H : History) : Type 0 where
  pub opened_1 : (H.sessions 1).opened ≡ true
  pub opened_2 : (H.sessions 2).opened ≡ false
  pub opened_3 : (H.sessions 3).opened ≡ true
  pub start_1 : (H.sessions 1).start ≡ 0
  pub start_3 : (H.sessions 3).start ≡ 1
  pub acknowledged_1 : (H.sessions 1).acknowledged ≡ 1
  pub acknowledged_3 : (H.sessions 3).acknowledged ≡ 1
  pub first_1 : log (H.sessions 1) 1 ≡ some first

shown_by : Shown (retold shape (fresh shape) calls expected (beginning shape).history)
unfolding retold told heard set_at beginning ℕ_discrete
shown_by =
    record { opened_1 = refl; opened_2 = refl; opened_3 = refl; start_1 = refl; start_3 = refl; acknowledged_1 = refl; acknowledged_3 = refl; first_1 = refl }

-- the history of the items is that of the calls
of_calls : (along_items shape (beginning shape) items).history ≡ (along shape (beginning shape) calls).history
of_calls = ap (λ (m : Moment). m.history) (flattened shape (beginning shape) items ∙ ap (along shape (beginning shape)) stands_for)

pub shown : Shown finally
unfolding finally
shown = subst⁻¹ Shown (of_calls ∙ told_by shape calls expected all_lines) shown_by

-- ================ the guarantee speaks of it

in_range : InRange shape
in_range = record { replicas = inr (inl refl); least = lit≤ tt; most = lit≤ tt; interval_least = lit≤ tt; interval_most = lit≤ tt }

fits_1 : FitEach (map (reading 1) calls_1)
fits_1 = (bare_take 0, (bare_prepare 0 0 Answered, (bare_prepare 0 1 Answered, (bare_prepare 0 2 Lost, (bare_open 0, tt)))))

fits_2 : FitEach calls_2
fits_2 = (issuing_fits 0 [] _ (lit< tt, tt), (send 0 Answered, (send 1 Answered, tt)))

fits_3 : FitEach (map (reading 0) calls_3)
fits_3 = (
  bare_take 1,
  (bare_prepare 1 2 Answered, (bare_prepare 1 0 (Cut 1 New), (bare_prepare 1 1 Answered, (bare_copy 1 1 2 Lost, (bare_open 1, tt))))),
)

fits_4 : FitEach (map (reading 2) calls_4)
fits_4 = (bare_take 2, (bare_prepare 2 2 Answered, (bare_prepare 2 1 Answered, (bare_copy 2 1 2 Answered, (bare_open 2, tt)))))

fits : FitEach calls
fits =
    fit_then (map (reading 1) calls_1) (calls_2 ++ (map (reading 0) calls_3 ++ map (reading 2) calls_4)) fits_1
    (fit_then calls_2 (map (reading 0) calls_3 ++ map (reading 2) calls_4) fits_2
    (fit_then (map (reading 0) calls_3) (map (reading 2) calls_4) fits_3 fits_4))

-- replica 1 is read by the first open, replica 2 by the last; the second opens no session
read_all : ReadAll shape (fresh shape) calls expected (beginning shape).history
unfolding told heard set_at beginning ℕ_discrete
read_all = ((lit< tt, refl), ((lit< tt, refl), tt))

covers_it : CoveredItems shape (beginning shape) items
covers_it =
    no_more shape (beginning shape) items (subst⁻¹ (CoveredAll shape (beginning shape)) stands_for (covered shape calls expected all_lines fits read_all))

kept : Kept finally
unfolding finally
kept = with_recoveries shape in_range items covers_it

-- ================ what it says of it

-- (1) what session 1 acknowledged lies at or below session 3's starting mark
pub start : (finally.sessions 1).acknowledged ≤ (finally.sessions 3).start
start = kept.start 1 3 shown.opened_1 shown.opened_3 (lit< tt)

-- (2) and stands in its log
pub first_3 : log (finally.sessions 3) 1 ≡ some first
first_3 =
    found finally kept 1 3 1 first shown.opened_1 shown.opened_3 (lit≤ tt) (omega (arith, shown.acknowledged_1))
    (omega (arith, shown.acknowledged_3)) shown.first_1
