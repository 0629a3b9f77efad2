-- What an open finds before it: the server's row, the clean replicas, that the register is changed, and that the protocol's guard holds.
-- Assumes nothing.
use mathlib.Core.Path.{◌≡◌, refl, sym, ap, ◌∙◌}
use mathlib.Core.Logic.{◌≢◌}
use mathlib.Core.Bool.{Bool, true, false, ◌&&◌, true≢false}
use Prim.Native.Nat.{ℕ, ◌≤◌, ◌<◌}
use native.Mathlib.Omega.{arith}
use lib.ListN.{length}
use lib.Dec.{eqb}
use borrow.Author.Tests.{eqb-true, ltb-false, not-false}
use Rattle.base.specs.Below.{count}
use Rattle.fate.specs.declared.Fate.{Fate}
use Rattle.quorum.specs.Vote.{quorum}
use Rattle.protocol.specs.State as protocol
use Rattle.protocol.specs.Columns.{count as tally}
use Rattle.protocol.specs.Marks.{flagged?, clean}
use Rattle.protocol.specs.Events.{Can-open}
use Rattle.protocol.proofs.Counting.{count_some}
use Rattle.protocol.proofs.Facts.{unopened}
use Rattle.cluster.specs.declared.Shape.{Shape}
use Rattle.cluster.specs.declared.Register.{Register}
use Rattle.cluster.specs.declared.Server.{Server}
use Rattle.cluster.specs.declared.Call.TheVariants as call
use Rattle.cluster.specs.State.{State, server_at, entry_at, mark_at, active_at}
use Rattle.cluster.specs.Refusals.{vote_mark, clean_at, session_differs}
use Rattle.cluster.specs.Effects.{opened_register}
use Rattle.guarantee.specs.Registers.{changed}
use Rattle.guarantee.specs.History.{Element, History}
use Rattle.guarantee.proofs.Ties.{row_of, OpeningTie, Sim}
use Rattle.guarantee.proofs.Passing.{below_four, is_opening_lem}
use Rattle.guarantee.proofs.Counts.{tally_is, vote_tie}
use Rattle.guarantee.proofs.Registers.{changes, entry_set, entry_kept}
use Rattle.guarantee.proofs.Facts.{at_most_seven}
use Rattle.guarantee.proofs.Played.{with_call_lem, Before}

-- of server s, with a session z that is not opened yet, and D, the mark of its vote
pub record Found (h : Shape) (x : State) (σ : protocol.State) (s : ℕ) : Type 0 where
  pub row : OpeningTie h.replicas (server_at x.records s) (row_of σ (server_at x.records s).session)
  pub new : σ.opened (server_at x.records s).session ≡ false
  pub room : h.replicas ≤ length x.records.register.entries
  -- the clean replicas are the protocol's
  pub cleans : let v = server_at x.records s in
      (i : ℕ) → i < h.replicas → clean_at v (vote_mark h.replicas v) i ≡ clean σ v.session (vote_mark h.replicas v) i
  pub is_changed : let g = x.records.register in changed g (opened_register h.replicas g (server_at x.records s) (vote_mark h.replicas (server_at x.records s))) ≡ true
  -- a replica whose entry the open sets to the session is clean
  pub is_clean : let v = server_at x.records s in
      (a : ℕ) → a < h.replicas → (entry_at (opened_register h.replicas x.records.register v (vote_mark h.replicas v)).entries a).session ≡ v.session
      → clean_at v (vote_mark h.replicas v) a ≡ true
  -- and whichever of them is read, the session may be opened, where the register has its number
  pub can : let v = server_at x.records s in
      session_differs x.records.register v ≡ false → (a : ℕ) → a < h.replicas → clean_at v (vote_mark h.replicas v) a ≡ true
      → Can-open σ v.session (vote_mark h.replicas v) a

-- equal marks are equal to D alike
same_clean : (a b : Bool) (m k D : ℕ) → a ≡ b → (b ≡ true → m ≡ k) → (a && eqb m D) ≡ (b && eqb k D)
same_clean a true m k D e f = rw (e, f refl)
same_clean a false m k D e f = rw e

module _ (h : Shape) (x : State) (H : History) (σ : protocol.State) (beside : Element) (s : ℕ) (f : Fate)
    (B : Before h x H σ (with_call_lem (call.Open s f) beside)) where
  S : Sim h x H σ
  S = B.sim

  abbrev R : ℕ
  R = h.replicas

  abbrev g : Register
  g = x.records.register

  abbrev v : Server
  v = server_at x.records s

  abbrev z : ℕ
  z = v.session

  abbrev D : ℕ
  D = vote_mark R v

  row : OpeningTie R v (row_of σ z)
  row = (S.servers.each s (below_four s (B.passed 3))).opening (is_opening_lem v.phase (B.passed 5))

  new : σ.opened z ≡ false
  new = go (σ.opened z) refl
    where
      go : (b : Bool) → σ.opened z ≡ b → σ.opened z ≡ false
      go true e = absurd (unopened σ B.inv z row.phase e)
      go false e = e

  -- the clean replicas
  cleans : (i : ℕ) → i < R → clean_at v (vote_mark R v) i ≡ clean σ z D i
  cleans i l = same_clean (active_at v i) (σ.known z i) (mark_at v i) (σ.recorded z i) D (row.known i l) (row.recorded i l)

  quorate : σ.Q ≤ tally (flagged? (clean σ z D)) σ.R
  quorate =
      rw (S.R, S.Q)
      (omega (
        arith,
        ltb-false (count (clean_at v (vote_mark R v)) R) (quorum R) (B.passed 9),
        tally_is (clean_at v (vote_mark R v)) (flagged? (clean σ z D)) R (λ j l e. sym (cleans j l) ∙ e) (λ j l e. cleans j l ∙ e),
      ))

  -- no entry was set to z before
  other_entry : (i : ℕ) → i < R → (entry_at g.entries i).session ≢ z
  other_entry i l e = true≢false (sym (S.register.entry i l) ∙ ap σ.opened e ∙ new)

  room : R ≤ length g.entries
  room = omega (arith, at_most_seven h B.range, S.register.size)

  is_changed : changed g (opened_register R g v (vote_mark R v)) ≡ true
  is_changed =
      let c = count_some (flagged? (clean σ z D)) σ.R (omega (arith, quorate, B.inv.quorum)) in
      let l : c.0 < R = omega (arith, c.1, S.R) in
      changes g (opened_register R g v (vote_mark R v)) c.0 (omega (arith, at_most_seven h B.range))
      (λ e. other_entry c.0 l (e ∙ entry_set R g v room c.0 l (cleans c.0 l ∙ c.2)))

  -- a replica whose entry the open sets to the session is clean
  is_clean : (a : ℕ) → a < R → (entry_at (opened_register R g v (vote_mark R v)).entries a).session ≡ z → clean_at v (vote_mark R v) a ≡ true
  is_clean a l e = go (clean_at v (vote_mark R v) a) refl
    where
      go : (b : Bool) → clean_at v (vote_mark R v) a ≡ b → clean_at v (vote_mark R v) a ≡ true
      go true q = q
      go false q = absurd (other_entry a l (sym (entry_kept R g v room a l q) ∙ e))

  can : session_differs g v ≡ false → (a : ℕ) → a < R → clean_at v (vote_mark R v) a ≡ true → Can-open σ z D a
  can same a la ca =
      record {
        phase = row.phase;
        session = sym S.register.session ∙ eqb-true g.session z (not-false (eqb g.session z) same);
        decided = vote_tie R σ z S.R S.Q v row (B.passed 8);
        quorum = quorate;
        clean_a = sym (cleans a la) ∙ ca;
      }

  pub found : Found h x σ s
  found = record { row = row; new = new; room = room; cleans = cleans; is_changed = is_changed; is_clean = is_clean; can = can }
