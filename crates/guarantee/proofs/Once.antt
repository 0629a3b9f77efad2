-- OF SESSIONS NOTHING IS WRITTEN OVER: one is opened once, with nothing issued in it before, and it issues an ID once: `once`.
-- The statement is specs/Once.antt.
-- Assumes nothing.
use mathlib.Core.Path.{◌≡◌, refl, sym, ap, ◌∙◌}
use mathlib.Core.Logic.{◌⊎◌, inl, inr}
use mathlib.Core.Bool.{Bool, true, false, true≢false}
use mathlib.Core.List.{List, ◌∷◌}
use mathlib.Core.Option.{none}
use Prim.Native.Nat.{ℕ, ◌+◌}
use native.Mathlib.Omega.{arith}
use Rattle.fate.specs.declared.Fate.{Fate}
use Rattle.protocol.specs.State as protocol
use Rattle.protocol.proofs.Invariant.{Inv}
use Rattle.protocol.proofs.Facts.{unopened}
use Rattle.cluster.specs.declared.Shape.{Shape}
use Rattle.cluster.specs.declared.Request.{Request}
use Rattle.cluster.specs.declared.Call.TheVariants as call
use Rattle.cluster.specs.State.{State, server_at}
use Rattle.cluster.specs.Refusals.{Input}
use Rattle.cluster.specs.Replies.{ok}
use Rattle.cluster.specs.Effects.{Result, issue_effect}
use Rattle.cluster.specs.Step.{step}
use Rattle.guarantee.specs.Registers.{changed}
use Rattle.guarantee.specs.History.{History, with_call, unopened as new-session}
use Rattle.guarantee.specs.Once.{New, Once}
use Rattle.guarantee.proofs.Ties.{Sim}
use Rattle.guarantee.proofs.Facts.{opening_lives, open_lives}
use Rattle.guarantee.proofs.Registers.{unchanged}
use Rattle.guarantee.proofs.Passing.{below_four, Passes, step_passes, Refused, judged, passed, is_opening_lem, is_open_lem}
use Rattle.guarantee.proofs.Along.{from_fresh}

module _ (h : Shape) (x : State) (H : History) (σ : protocol.State) (S : Sim h x H σ) (I : Inv σ) (p : Input) (s : ℕ) where
  abbrev open_call_lem : Fate → Input
  open_call_lem f = with_call (call.Open s f) p

  abbrev issue_call_lem : Request → Input
  issue_call_lem q = with_call (call.Issue s q) p

  unopened_yet : (f : Fate) → Passes h x (open_call_lem f) → H.sessions (H.current s) ≡ new-session
  unopened_yet f q =
      let P = passed h x (open_call_lem f) q in
      let v = server_at x.records s in
      let o = is_opening_lem v.phase (P 5) in
      let T = S.servers.each s (below_four s (P 3)) in
      let c = T.current (opening_lives v o) in
      ap H.sessions c ∙ (S.sessions v.session).before (go v.session (T.opening o).phase (σ.opened v.session) refl)
    where
      go : (z : ℕ) → σ.phase z ≡ protocol.Opening → (b : Bool) → σ.opened z ≡ b → σ.opened z ≡ false
      go z p true e = absurd (unopened σ I z p e)
      go z p false e = e

  opened_once : (f : Fate) → changed x.records.register (step h x (open_call_lem f)).state.records.register ≡ true
      → H.sessions (H.current s) ≡ new-session
  opened_once f c = go (judged h x (open_call_lem f))
    where
      go : Refused h x (open_call_lem f) ⊎ Passes h x (open_call_lem f) → H.sessions (H.current s) ≡ new-session
      go (inl r) =
          absurd
          (true≢false
          (sym c
          ∙ ap (λ (r : Result). changed x.records.register r.state.records.register) r.result
          ∙ unchanged x.records.register))
      go (inr q) = unopened_yet f q

  unissued : (q : Request) → Passes h x (issue_call_lem q) → (H.sessions (H.current s)).issues ((server_at x.records s).issued + 1) ≡ none
  unissued r q =
      let P = passed h x (issue_call_lem r) q in
      let v = server_at x.records s in
      let o = is_open_lem v.phase (P 5) in
      let T = S.servers.each s (below_four s (P 3)) in
      let c = T.current (open_lives v o) in
      ap (λ (t : ℕ). (H.sessions t).issues (v.issued + 1)) c
      ∙ ((S.sessions v.session).opened (I.numbers.live v.session (T.serving o).phase)).beyond (v.issued + 1) (omega (arith, (T.serving o).issued))

  issued_once : (q : Request) (n : ℕ) (vs : List ℕ) → (step h x (issue_call_lem q)).reply ≡ ok (n ∷ vs) → (H.sessions (H.current s)).issues n ≡ none
  unfolding issue_effect
  issued_once q n vs e = go (judged h x (issue_call_lem q))
    where
      go : Refused h x (issue_call_lem q) ⊎ Passes h x (issue_call_lem q) → (H.sessions (H.current s)).issues n ≡ none
      go (inl r) = let z : ◌≡◌ {A = ℕ} 0 1 = cc (e, ap (λ (r : Result). r.reply) r.result) in absurd (omega arith)
      go (inr p) =
          let a = ap (λ (r : Result). r.reply) (step_passes h x (issue_call_lem q) p) in
          let m : (server_at x.records s).issued + 1 ≡ n = cc (e, a) in
          rw m at (unissued q p)

pub new : (h : Shape) (x : State) (H : History) (σ : protocol.State) → Sim h x H σ → Inv σ → (p : Input) → New h x H p
new h x H σ S I p =
    record {
      opens = λ s f e c. opened_once h x H σ S I p s f (as_open s f e c);
      issues = λ s n q vs e r. issued_once h x H σ S I p s q n vs (as_issue s n q vs e r);
    }
  where
    as_open : (s : ℕ) (f : Fate) → p.call ≡ call.Open s f → changed x.records.register (step h x p).state.records.register ≡ true
        → changed x.records.register
        (step h x (with_call (call.Open s f) p)).state.records.register ≡ true
    as_open s f e c = rw (← e) c

    as_issue : (s n : ℕ) (q : Request) (vs : List ℕ) → p.call ≡ call.Issue s q → (step h x p).reply ≡ ok (n ∷ vs)
        → (step h x (with_call (call.Issue s q) p)).reply ≡ ok (n ∷ vs)
    as_issue s n q vs e r = rw (← e) r

pub once : Once
once h range es a p = let w = from_fresh h range es a in new h _ _ w.state w.tied.sim w.inv p
