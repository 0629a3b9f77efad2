-- "Entries .. from R up are never read; those entries never change": the second half. No call changes an entry of the register from R up.
-- The theorem is `kept`.
-- Assumes nothing.
use mathlib.Core.Path.{◌≡◌, refl, ◌∙◌}
use mathlib.Core.Bool.{Bool, true, false, not, cond, ◌&&◌}
use mathlib.Core.List.{List}
use Prim.Native.Nat.{ℕ, zero, suc, ◌≤◌}
use native.Mathlib.Omega.{arith}
use lib.ListN.{get_or}
use lib.Seq.{get_or-set_other}
use borrow.Author.Tests.{leb-false}
use Rattle.base.specs.Below.{up_to}
use Rattle.cluster.specs.declared.Shape.{Shape}
use Rattle.cluster.specs.declared.Entry.{Entry}
use Rattle.cluster.specs.declared.Register.{Register}
use Rattle.cluster.specs.declared.Call.{Call}
use Rattle.cluster.specs.declared.Call.TheVariants as call
use Rattle.cluster.specs.State.{State, fresh_entry, server_at, entry_at}
use Rattle.cluster.specs.Refusals.{Input, vote_mark, clean_at, session_at_top, session_differs, checks_of, list_of, rows_of, Verdict, pass, declined, first_of}
use Rattle.cluster.specs.Effects.{arrives, raised_session, entry_after, opened_register, prepare_effect, trim_effect, note_effect, read_effect, export_effect, append_effect, take_effect, open_effect, issue_effect, stop_effect, reassign_effect, restored_entry, restore_effect}
use Rattle.cluster.specs.Step.{effect, unless, step}
use Rattle.cluster.proofs.Rows.{condition_of, passed}

-- ---- the statement

abbrev pub Statement : Type 0
Statement =
    (h : Shape) (x : State) (p : Input) (i : ℕ)
    → h.replicas ≤ i
    → entry_at (step h x p).state.records.register.entries i ≡ entry_at x.records.register.entries i

-- ---- its proof

-- what was written below n leaves the rest
above : {A : Type 0} (f : ℕ → A) (l : List A) (n i : ℕ) (d : A) → n ≤ i → get_or (up_to f l n) i d ≡ get_or l i d
unfolding up_to
above f l zero i d k = refl
above f l (suc n) i d k = get_or-set_other (up_to f l n) n i (f n) d (λ e. omega arith) ∙ above f l n i d (omega arith)

-- one of two registers, each of which has the entry
either_has : (b : Bool) (g k : Register) (i : ℕ) (e : Entry) → entry_at g.entries i ≡ e → entry_at k.entries i ≡ e → entry_at (cond b g k).entries i ≡ e
either_has true g k i e a c = a
either_has false g k i e a c = c

module _ (h : Shape) (x : State) (p : Input) (i : ℕ) (l : h.replicas ≤ i) where
  abbrev g : Register
  g = x.records.register

  -- a restore that is not declined names a replica below R
  after : (c : Call) → ((n : ℕ) → condition_of n (list_of (checks_of h x p c)) ≡ false)
      → entry_at (effect h x p c).state.records.register.entries i ≡ entry_at g.entries i
  unfolding prepare_effect trim_effect note_effect read_effect export_effect append_effect take_effect open_effect opened_register issue_effect stop_effect reassign_effect restore_effect
  after (call.Take s f) none = either_has (arrives f && not (session_at_top g.session)) (raised_session g) g i _ refl refl
  after (call.Prepare s j f) none = refl
  after (call.Copy s a b f) none = refl
  after (call.Trim s j f) none = refl
  after (call.Open s f) none =
      let v = server_at x.records s in
      let d = vote_mark h.replicas v in
      either_has (arrives f && not (session_differs g v)) (opened_register h.replicas g v d) g i _
      (above (λ j. entry_after (entry_at g.entries j) (clean_at v d j) v.session d) g.entries h.replicas i fresh_entry l) refl
  after (call.Issue s q) none = refl
  after (call.Send s j f) none = refl
  after (call.Note s j f) none = refl
  after (call.Read s j n f) none = refl
  after (call.Export s j f) none = refl
  after (call.Stop s) none = refl
  after call.Reassign none = refl
  after (call.Restore j) none =
      let below = leb-false h.replicas j (none 4) in
      get_or-set_other g.entries j i (restored_entry (entry_at g.entries j)) fresh_entry (λ e. omega (arith, below, e))

  unless_kept : (d : Verdict) → first_of (rows_of h x p) ≡ d → entry_at (unless d x (effect h x p p.call)).state.records.register.entries i ≡ entry_at g.entries i
  unfolding unless
  unless_kept pass e = after p.call (passed (rows_of h x p) e)
  unless_kept (declined n values) e = refl

pub kept : Statement
unfolding step
kept h x p i l = unless_kept h x p i l (first_of (rows_of h x p)) refl
