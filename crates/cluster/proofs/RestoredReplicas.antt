-- A RESTORED REPLICA, as laws in the words of document 02, No. 10, about the calls that meet one. "Preparing a restored replica truncates to its low-water mark":
-- what it answers is the lesser of that and its mark (`truncates`). It "counts as absent in the vote": those that vote, of whom proofs/Decides speaks, are the known
-- ones but for those that were restored when the session was taken (`absent`). "Copying from it meets refusal 17": while the server is opening, and otherwise 17
-- is given for what it was given for before (`source`). Its entry is marked by a restore of this replica alone (`marked_by`), and is left so by every call but an
-- open (`ordinary_by`), which makes it ordinary exactly if it finds the replica known and at the mark (`opened_exactly`).
-- Why, beside the definitions: the guarantee holds without most of this. A definition that truncated such a replica to 0, copied from it, or never made it
-- ordinary again would lose no booking.
-- The statements come first, then their proofs.
-- Assumes nothing.
use mathlib.Core.Path.{◌≡◌, refl, sym, ap, ◌∙◌}
use mathlib.Core.Bool.{Bool, true, false, not, cond, ◌&&◌, ◌||◌, false≢true}
use mathlib.Core.Logic.{◌↔◌, ◌⊎◌, inl, inr, ⊎_elim}
use mathlib.Core.List.{List, [], ◌∷◌}
use Prim.Native.Nat.{ℕ, ◌≤◌, ◌<◌, min}
use native.Mathlib.Omega.{arith}
use native.Mathlib.Decide.{ℕ_discrete}
use lib.ListN.{length, set}
use lib.Dec.{eqb}
use lib.Seq.{get_or-set_same, get_or-set_other}
use borrow.Author.Tests.{eqb-true, eq-eqb}
use Rattle.base.proofs.Tests.{both, lt_or_le}
use Rattle.base.proofs.Below.{up_to_at}
use Rattle.fate.specs.declared.Fate.{Fate}
use Rattle.fate.specs.declared.Fate.TheVariants.{Answered, Lost, AnswerLost, Cut}
use Rattle.fate.specs.Fates.{after}
use Rattle.storage.specs.declared.operation.Target.TheVariants as target
use Rattle.storage.specs.Sizes.{medium_size}
use Rattle.storage.specs.Slots.{stored_slot}
use Rattle.storage.specs.Log.{mark_of}
use Rattle.storage.specs.Operations.{medium_at, prepare_writes}
use Rattle.storage.proofs.Marks.{prepared_mark}
use Rattle.segment.specs.declared.header.Stamp.{Stamp}
use Rattle.segment.specs.Pair.{Files}
use Rattle.cluster.specs.declared.Shape.{Shape}
use Rattle.cluster.specs.declared.Closing.{Closing}
use Rattle.cluster.specs.declared.Closing.TheVariants.{Unresolved, Mark, Restored}
use Rattle.cluster.specs.declared.Entry.{Entry}
use Rattle.cluster.specs.declared.Register.{Register}
use Rattle.cluster.specs.declared.Server.{Server}
use Rattle.cluster.specs.declared.Phase.{Phase}
use Rattle.cluster.specs.declared.Phase.TheVariants.{Idle, Opening, Open}
use Rattle.cluster.specs.declared.Call.{Call}
use Rattle.cluster.specs.declared.Call.TheVariants as call
use Rattle.cluster.specs.State.{State, fresh_entry, server_at, entry_at, mark_at, active_at, votes_at}
use Rattle.cluster.specs.Replies.{ok, no, silent}
use Rattle.cluster.specs.Refusals.{Input, row, promise_above, no_slot, restored_source, unfit_source, refuses_at, vote_mark, clean_at, session_at_top, session_differs, answered, rows_of, Verdict, pass, declined, first_of}
use Rattle.cluster.specs.Effects.{arrives, raised_session, closed_at, entry_after, opened_register, restored_entry, prepare_effect, trim_effect, note_effect, read_effect, export_effect, append_effect, take_effect, open_effect, issue_effect, stop_effect, reassign_effect, restore_effect}
use Rattle.cluster.specs.Step.{effect, unless, step}
use Rattle.cluster.proofs.Rows.{passed}
use Rattle.cluster.proofs.Numbers.{making, mentions, until, beyond, given_exactly, ok_passes}
use Rattle.cluster.proofs.Declines.{effect_never_no}
use Rattle.cluster.proofs.Beyond.{kept}

-- ================ the statements

-- ---- prepare: "Preparing a restored replica truncates to its low-water mark"

abbrev pub Truncates : Type 0
Truncates =
    (h : Shape) (x : State) (s i : ℕ) (f : Fate) (content locks given : List ℕ) (stamp : Stamp) (files : Files) (backup values : List ℕ)
    → let m = medium_at h.places i x.media in
    length m ≡ medium_size h.places
    → (entry_at (server_at x.records s).entries i).closing ≡ Restored
    → (step h x (making (call.Prepare s i f) content locks given stamp files backup)).reply ≡ ok values
    → values ≡ min (stored_slot m).low (mark_of h.places m) ∷ []

-- ---- the vote: "counts as absent in the vote"

abbrev pub Absent : Type 0
Absent = (v : Server) (i : ℕ) → (votes_at v i ≡ true) ↔ ((active_at v i ≡ true) × ((entry_at v.entries i).closing ≡ Restored → ⊥))

-- ---- copy: "copying from it meets refusal 17"

abbrev pub Source : Type 0
Source =
    (h : Shape) (x : State) (s a b : ℕ) (f : Fate) (content locks given : List ℕ) (stamp : Stamp) (files : Files) (backup : List ℕ)
    → let p = making (call.Copy s a b f) content locks given stamp files backup in
    let v = server_at x.records s in
    first_of (until 17 (rows_of h x p)) ≡ pass
    → ((step h x p).reply ≡ no 17 [])
    ↔ (((v.phase ≡ Opening) × ((entry_at v.entries a).closing ≡ Restored)) ⊎ (refuses_at h.places v x.media a ≡ true))

-- ---- the entry: "marks the entry restored"

abbrev pub entry_after_call : Shape → State → Input → ℕ → Entry
entry_after_call h x p i = entry_at (step h x p).state.records.register.entries i

abbrev pub entry_before : State → ℕ → Entry
entry_before x i = entry_at x.records.register.entries i

-- no call but a restore of replica i marks its entry
abbrev pub MarkedBy : Type 0
MarkedBy =
    (h : Shape) (x : State) (p : Input) (i : ℕ)
    → h.replicas ≤ length x.records.register.entries
    → ((entry_before x i).closing ≡ Restored → ⊥)
    → (entry_after_call h x p i).closing ≡ Restored
    → p.call ≡ call.Restore i

-- of an open that is answered with ok: "If it stands at the decided mark at open it counts as clean and the entry is ordinary; otherwise it stays restored"
abbrev pub OpenedExactly : Type 0
OpenedExactly =
    (h : Shape) (x : State) (s : ℕ) (f : Fate) (i : ℕ) (content locks given : List ℕ) (stamp : Stamp) (files : Files) (backup values : List ℕ)
    → let p = making (call.Open s f) content locks given stamp files backup in
    let v = server_at x.records s in
    let d = vote_mark h.replicas v in
    i < h.replicas
    → h.replicas ≤ length x.records.register.entries
    → (entry_before x i).closing ≡ Restored
    → (step h x p).reply ≡ ok values
    → ((active_at v i ≡ true) → (mark_at v i ≡ d) → entry_after_call h x p i ≡ record { session = v.session; closing = Unresolved })
    × (((active_at v i ≡ true) → (mark_at v i ≡ d) → ⊥) → entry_after_call h x p i ≡ entry_before x i)

-- a restored entry is as it was after any call, but after an open that finds the replica known and at the mark of the vote: then it has the opened session
pub record Reopened (h : Shape) (x : State) (p : Input) (i : ℕ) : Type 0 where
  pub server : ℕ
  pub fate : Fate
  pub opens : p.call ≡ call.Open server fate
  pub known : active_at (server_at x.records server) i ≡ true
  pub at : mark_at (server_at x.records server) i ≡ vote_mark h.replicas (server_at x.records server)
  pub session : (entry_after_call h x p i).session ≡ (server_at x.records server).session
  pub ordinary : (entry_after_call h x p i).closing ≡ Unresolved

abbrev pub OrdinaryBy : Type 0
OrdinaryBy =
    (h : Shape) (x : State) (p : Input) (i : ℕ)
    → h.replicas ≤ length x.records.register.entries
    → (entry_before x i).closing ≡ Restored
    → (entry_after_call h x p i ≡ entry_before x i) ⊎ Reopened h x p i

-- ================ its prepare

is_answered_lem : (b : Bool) (us vs : List ℕ) → cond b (ok us) silent ≡ ok vs → (b ≡ true) × (us ≡ vs)
is_answered_lem true us vs e = (refl, cc)
is_answered_lem false us vs e = let z : ◌≡◌ {A = ℕ} 0 1 = cc in absurd (omega arith)

answers : (f : Fate) → answered f ≡ true → f ≡ Answered
answers Answered e = refl
answers Lost e = absurd (false≢true e)
answers AnswerLost e = absurd (false≢true e)
answers (Cut w l) e = absurd (false≢true e)

answered_mark : (N z : ℕ) (given m : List ℕ) → length m ≡ medium_size N
    → mark_of N (after Answered given (prepare_writes N z target.LowWater m) m) ≡ min (stored_slot m).low (mark_of N m)
unfolding after
answered_mark N z given m size = prepared_mark N z target.LowWater m size

pub truncates : Truncates
unfolding step unless prepare_effect
truncates h x s i f content locks given stamp files backup values size restored q =
    let p = making (call.Prepare s i f) content locks given stamp files backup in
    let N = h.places in
    let v = server_at x.records s in
    let m = medium_at N i x.media in
    let through = ok_passes (rows_of h x p) x (effect h x p p.call) values q in
    let none = passed (rows_of h x p) through in
    let heard = is_answered_lem (answered f) _ values (rw through at q) in
    let told : f ≡ Answered = answers f heard.0 in
    let slot : no_slot m ≡ false = rw heard.0 at (none 18) in
    let promise : promise_above v.session m ≡ false = rw heard.0 at (none 19) in
    sym heard.1 ∙ ap (λ (n : ℕ). n ∷ []) (rw (slot, promise, told, restored) (answered_mark N v.session given m size))

-- ================ its vote

pub absent : Absent
absent v i = go (entry_at v.entries i).closing refl
  where
    go : (c : Closing) → (entry_at v.entries i).closing ≡ c → (votes_at v i ≡ true) ↔ ((active_at v i ≡ true) × (c ≡ Restored → ⊥))
    go Unresolved e = rw e (λ k. ((both (active_at v i) true k).0, λ q. let z : ◌≡◌ {A = ℕ} 0 1 = cc in omega arith), λ (a, n). rw a refl)
    go (Mark d) e = rw e (λ k. ((both (active_at v i) true k).0, λ q. let z : ◌≡◌ {A = ℕ} 0 1 = cc in omega arith), λ (a, n). rw a refl)
    go Restored e = rw e (λ k. absurd (false≢true (both (active_at v i) false k).1), λ (a, n). absurd (n refl))

-- ================ copies from it

module _ (h : Shape) (x : State) (s a b : ℕ) (f : Fate) (content locks given : List ℕ) (stamp : Stamp) (files : Files) (backup : List ℕ) where
  abbrev copied : Input
  copied = making (call.Copy s a b f) content locks given stamp files backup

  abbrev v : Server
  v = server_at x.records s

  by_17 : ((step h x copied).reply ≡ no 17 []) ↔ ((first_of (until 17 (rows_of h x copied)) ≡ pass) × (unfit_source h.places v x.media a ≡ true) × (◌≡◌ {A = List ℕ} [] []))
  unfolding step mentions until beyond
  by_17 =
      given_exactly (until 17 (rows_of h x copied)) (row 17 (unfit_source h.places v x.media a)) (beyond 17 (rows_of h x copied)) x (effect h x copied copied.call) [] refl refl
      (effect_never_no h x copied 17 [])

  opening_restored : (c : Phase) (e : Closing) → v.phase ≡ c → (entry_at v.entries a).closing ≡ e → unfit_source h.places v x.media a ≡ true
      → ((c ≡ Opening) × (e ≡ Restored)) ⊎ (refuses_at h.places v x.media a ≡ true)
  opening_restored Opening Restored p q u = inl (refl, refl)
  opening_restored Opening Unresolved p q u = inr (rw (p, q) at u)
  opening_restored Opening (Mark k) p q u = inr (rw (p, q) at u)
  opening_restored Idle e p q u = inr (rw p at u)
  opening_restored Open e p q u = inr (rw p at u)

  unfit : ((v.phase ≡ Opening) × ((entry_at v.entries a).closing ≡ Restored)) ⊎ (refuses_at h.places v x.media a ≡ true)
      → unfit_source h.places v x.media a ≡ true
  unfit (inl (p, q)) = rw (p, q)
  unfit (inr r) = go (restored_source v a) r
    where
      go : (b : Bool) → refuses_at h.places v x.media a ≡ true → (b || refuses_at h.places v x.media a) ≡ true
      go true r = refl
      go false r = r

pub source : Source
source h x s a b f content locks given stamp files backup k =
    let w = by_17 h x s a b f content locks given stamp files backup in
    let u = server_at x.records s in (
      λ r. opening_restored h x s a b f content locks given stamp files backup u.phase (entry_at u.entries a).closing refl refl (w.0 r).1,
      λ t. w.1 (k, unfit h x s a b f content locks given stamp files backup t, refl),
    )

-- ================ its entry

module _ (h : Shape) (x : State) (p : Input) (i : ℕ) (room : h.replicas ≤ length x.records.register.entries) where
  abbrev g : Register
  g = x.records.register

  abbrev e : Entry
  e = entry_at g.entries i

  -- of an open by server s: the entry after it
  opened : (s : ℕ) → i < h.replicas
      → let u = server_at x.records s in
      let d = vote_mark h.replicas u in
      entry_at (opened_register h.replicas g u d).entries i ≡ entry_after e (clean_at u d i) u.session d
  unfolding opened_register
  opened s l =
      let u = server_at x.records s in
      let d = vote_mark h.replicas u in
      up_to_at (λ j. entry_after (entry_at g.entries j) (clean_at u d j) u.session d) g.entries h.replicas i fresh_entry l room

  -- an open leaves it, or makes of it what the register's own definition says
  by_open : (s : ℕ) (f : Fate) → i < h.replicas
      → let u = server_at x.records s in
      let d = vote_mark h.replicas u in
      let w = entry_at (open_effect h.replicas d x s f).state.records.register.entries i in
      (w ≡ e) ⊎ (w ≡ entry_after e (clean_at u d i) u.session d)
  unfolding open_effect
  by_open s f l = go (arrives f && not (session_differs g (server_at x.records s)))
    where
      go : (b : Bool)
          → let u = server_at x.records s in
          let d = vote_mark h.replicas u in
          let w = entry_at (cond b (opened_register h.replicas g u d) g).entries i in
          (w ≡ e) ⊎ (w ≡ entry_after e (clean_at u d i) u.session d)
      go true = inr (opened s l)
      go false = inl refl

  -- a take leaves it
  by_take : (b : Bool) → entry_at (cond b (raised_session g) g).entries i ≡ e
  by_take true = refl
  by_take false = refl

-- an open marks none, and makes a restored one ordinary where it is clean
marks_none : (e : Entry) (clean : Bool) (z d : ℕ) (c : Closing) → e.closing ≡ c → (c ≡ Restored → ⊥)
    → (cond clean (record { session = z; closing = Unresolved }) (closed_at e d c)).closing ≡ Restored → ⊥
marks_none e true z d c q n r = let z : ◌≡◌ {A = ℕ} 0 1 = cc in omega arith
marks_none e false z d Unresolved q n r = let z : ◌≡◌ {A = ℕ} 0 1 = cc in omega arith
marks_none e false z d (Mark k) q n r = n (sym q ∙ r)
marks_none e false z d Restored q n r = n refl

-- the entry w has session z, unresolved, and the replica was clean
record Cleaned (w : Entry) (clean : Bool) (z : ℕ) : Type 0 where
  is_clean : clean ≡ true
  session : w.session ≡ z
  ordinary : w.closing ≡ Unresolved

stays_or : (e : Entry) (clean : Bool) (z d : ℕ) → e.closing ≡ Restored
    → let w = entry_after e clean z d in (w ≡ e) ⊎ Cleaned w clean z
stays_or e true z d q = inr (record { is_clean = refl; session = refl; ordinary = refl })
stays_or e false z d q = inl (rw q refl)

module _ (h : Shape) (x : State) (p : Input) (i : ℕ) (room : h.replicas ≤ length x.records.register.entries) (l : i < h.replicas) where
  abbrev es : List Entry
  es = x.records.register.entries

  marks : (c : Call) → ((entry_at es i).closing ≡ Restored → ⊥)
      → (entry_at (effect h x p c).state.records.register.entries i).closing ≡ Restored → c ≡ call.Restore i
  unfolding prepare_effect trim_effect note_effect read_effect export_effect append_effect take_effect issue_effect stop_effect reassign_effect restore_effect
  marks (call.Take s f) n r =
      absurd (n (sym (ap (λ (u : Entry). u.closing) (by_take h x p i room (arrives f && not (session_at_top x.records.register.session)))) ∙ r))
  marks (call.Prepare s j f) n r = absurd (n r)
  marks (call.Copy s a b f) n r = absurd (n r)
  marks (call.Trim s j f) n r = absurd (n r)
  marks (call.Open s f) n r = absurd (go (by_open h x p i room s f l))
    where
      u : Server
      u = server_at x.records s

      d : ℕ
      d = vote_mark h.replicas u

      w : Entry
      w = entry_at (effect h x p (call.Open s f)).state.records.register.entries i

      go : (w ≡ entry_at es i) ⊎ (w ≡ entry_after (entry_at es i) (clean_at u d i) u.session d) → ⊥
      go (inl q) = n (sym (ap (λ (v : Entry). v.closing) q) ∙ r)
      go (inr q) = marks_none (entry_at es i) (clean_at u d i) u.session d (entry_at es i).closing refl n (sym (ap (λ (v : Entry). v.closing) q) ∙ r)
  marks (call.Issue s q) n r = absurd (n r)
  marks (call.Send s j f) n r = absurd (n r)
  marks (call.Note s j f) n r = absurd (n r)
  marks (call.Read s j k f) n r = absurd (n r)
  marks (call.Export s j f) n r = absurd (n r)
  marks (call.Stop s) n r = absurd (n r)
  marks call.Reassign n r = absurd (n r)
  marks (call.Restore j) n r = go (ℕ_discrete i j)
    where
      go : Dec (i ≡ j) → call.Restore j ≡ call.Restore i
      go (Dec.yes k) = ap call.Restore (sym k)
      go (Dec.no k) = absurd (n (sym (ap (λ (u : Entry). u.closing) (get_or-set_other es j i (restored_entry (entry_at es j)) fresh_entry k)) ∙ r))

  -- what an entry that was restored is after a call
  abbrev Then : Call → Type 0
  Then c =
      let w = entry_at (effect h x p c).state.records.register.entries i in
      (w ≡ entry_at es i)
      ⊎ ((s : ℕ)
      × (f : Fate)
      × (c ≡ call.Open s f)
      × (let u = server_at x.records s in Cleaned w (clean_at u (vote_mark h.replicas u) i) u.session))

  stays : (c : Call) → (entry_at es i).closing ≡ Restored → Then c
  unfolding prepare_effect trim_effect note_effect read_effect export_effect append_effect take_effect issue_effect stop_effect reassign_effect restore_effect
  stays (call.Take s f) r = inl (by_take h x p i room (arrives f && not (session_at_top x.records.register.session)))
  stays (call.Prepare s j f) r = inl refl
  stays (call.Copy s a b f) r = inl refl
  stays (call.Trim s j f) r = inl refl
  stays (call.Open s f) r = go (by_open h x p i room s f l)
    where
      u : Server
      u = server_at x.records s

      d : ℕ
      d = vote_mark h.replicas u

      w : Entry
      w = entry_at (effect h x p (call.Open s f)).state.records.register.entries i

      go : (w ≡ entry_at es i) ⊎ (w ≡ entry_after (entry_at es i) (clean_at u d i) u.session d) → Then (call.Open s f)
      go (inl q) = inl q
      go (inr q) = ⊎_elim (λ k. inl (q ∙ k))
          (λ k. inr (s, f, refl, record { is_clean = k.is_clean; session = ap (λ (v : Entry). v.session) q ∙ k.session; ordinary = ap (λ (v : Entry). v.closing) q ∙ k.ordinary }))
          (stays_or (entry_at es i) (clean_at u d i) u.session d r)
  stays (call.Issue s q) r = inl refl
  stays (call.Send s j f) r = inl refl
  stays (call.Note s j f) r = inl refl
  stays (call.Read s j k f) r = inl refl
  stays (call.Export s j f) r = inl refl
  stays (call.Stop s) r = inl refl
  stays call.Reassign r = inl refl
  stays (call.Restore j) r = inl (go (ℕ_discrete i j))
    where
      go : Dec (i ≡ j) → entry_at (set es j (restored_entry (entry_at es j))) i ≡ entry_at es i
      go (Dec.yes k) =
          rw (← k)
          (get_or-set_same es i (restored_entry (entry_at es i)) fresh_entry (omega (arith, room, l))
          ∙ ap (λ (c : Closing). record { session = (entry_at es i).session; closing = c }) (sym r))
      go (Dec.no k) = get_or-set_other es j i (restored_entry (entry_at es j)) fresh_entry k

-- a call that passes has its effect, and another leaves the register
module _ (h : Shape) (x : State) (p : Input) (i : ℕ) where
  went : (v : Verdict) → first_of (rows_of h x p) ≡ v
      → (entry_after_call h x p i ≡ entry_before x i) ⊎ (entry_after_call h x p i ≡ entry_at (effect h x p p.call).state.records.register.entries i)
  unfolding step unless
  went pass e = inr (rw e refl)
  went (declined n values) e = inl (rw e refl)

pub marked_by : MarkedBy
marked_by h x p i room n r = ⊎_elim below (λ l. absurd (n (sym (ap (λ (u : Entry). u.closing) (kept h x p i l)) ∙ r))) (lt_or_le i h.replicas)
  where
    below : i < h.replicas → p.call ≡ call.Restore i
    below l = ⊎_elim
        (λ e. absurd (n (sym (ap (λ (u : Entry). u.closing) e) ∙ r)))
        (λ e. marks h x p i room l p.call n (sym (ap (λ (u : Entry). u.closing) e) ∙ r))
        (went h x p i (first_of (rows_of h x p)) refl)

pub ordinary_by : OrdinaryBy
ordinary_by h x p i room r = ⊎_elim below (λ l. inl (kept h x p i l)) (lt_or_le i h.replicas)
  where
    below : i < h.replicas → (entry_after_call h x p i ≡ entry_before x i) ⊎ Reopened h x p i
    below l = ⊎_elim inl
        (λ e. ⊎_elim (λ k. inl (e ∙ k))
        (λ (s, f, o, k).
        let u = server_at x.records s in
        let c = both (active_at u i) (eqb (mark_at u i) (vote_mark h.replicas u)) k.is_clean in
        inr (record {
          server = s;
          fate = f;
          opens = o;
          known = c.0;
          at = eqb-true _ _ c.1;
          session = ap (λ (v : Entry). v.session) e ∙ k.session;
          ordinary = ap (λ (v : Entry). v.closing) e ∙ k.ordinary;
        }))
        (stays h x p i room l p.call r))
        (went h x p i (first_of (rows_of h x p)) refl)

pub opened_exactly : OpenedExactly
unfolding step unless open_effect
opened_exactly h x s f i content locks given stamp files backup values l room r q =
    let p = making (call.Open s f) content locks given stamp files backup in
    let u = server_at x.records s in
    let d = vote_mark h.replicas u in
    let through = ok_passes (rows_of h x p) x (effect h x p p.call) values q in
    let none = passed (rows_of h x p) through in
    let heard = is_answered_lem (answered f) _ values (rw through at q) in
    let told : f ≡ Answered = answers f heard.0 in
    let same : session_differs x.records.register u ≡ false = rw heard.0 at (none 22) in
    let w : entry_after_call h x p i ≡ entry_after (entry_before x i) (clean_at u d i) u.session d = rw (through, told, same) (opened h x p i room s l) in (
      λ a m. w ∙ rw (a, eq-eqb (mark_at u i) d m) refl,
      λ n. w ∙ ap (λ (b : Bool). entry_after (entry_before x i) b u.session d) (unclean u d n) ∙ rw r refl,
    )
  where
    unclean : (u : Server) (d : ℕ) → ((active_at u i ≡ true) → (mark_at u i ≡ d) → ⊥) → clean_at u d i ≡ false
    unclean u d n = go (clean_at u d i) refl
      where
        go : (b : Bool) → clean_at u d i ≡ b → clean_at u d i ≡ false
        go false e = e
        go true e = let c = both (active_at u i) (eqb (mark_at u i) d) e in absurd (n c.0 (eqb-true _ _ c.1))
