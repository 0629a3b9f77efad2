-- Along a list of calls: each is declined and changes nothing, or is a list of events. So every list of calls is one, and what is shown of the protocol
-- holds after every list from a fresh cluster (`from_fresh`).
-- Assumes nothing.
use mathlib.Core.Path.{◌≡◌, refl}
use mathlib.Core.Logic.{◌⊎◌, inl, inr}
use mathlib.Core.Bool.{Bool, true, false, cond}
use mathlib.Core.List.{List, [], ◌∷◌}
use Prim.Native.Nat.{ℕ, suc}
use Rattle.storage.specs.Operations.{medium_at}
use Rattle.quorum.specs.Vote.{quorum}
use Rattle.protocol.specs.State as protocol
use Rattle.protocol.specs.Events.{Steps, ◌▸▸◌}
use Rattle.protocol.proofs.Invariant.{Inv}
use Rattle.protocol.proofs.Fresh.{fresh_inv}
use Rattle.protocol.proofs.Keeps.{steps_inv}
use Rattle.protocol.proofs.Backups.{held, lasts}
use Rattle.cluster.specs.declared.Shape.{Shape}
use Rattle.cluster.specs.declared.Call.{Call}
use Rattle.cluster.specs.declared.Call.TheVariants as call
use Rattle.cluster.specs.State.{State}
use Rattle.cluster.specs.Refusals.{Input}
use Rattle.cluster.specs.Replies.{ok, silent}
use Rattle.cluster.specs.Effects.{Result}
use Rattle.cluster.specs.Step.{effect}
use Rattle.cluster.proofs.Declines.{is_answered, declines}
use Rattle.guarantee.specs.History.{Element, Earlier, History, told, heard, counted, Moment, next, beginning, along}
use Rattle.guarantee.specs.Guarantee.{InRange, Covered, CoveredAll}
use Rattle.guarantee.proofs.Ties.{Sim, Goes, Backed, Past, content_of, copy_of}
use Rattle.guarantee.proofs.Passing.{Passes, step_passes, Refused, judged, passed}
use Rattle.guarantee.proofs.Facts.{quorate}
use Rattle.guarantee.proofs.Fresh.{fresh_tie, fresh_past}
use Rattle.guarantee.proofs.Sessions.{set_at_elim}
use Rattle.guarantee.proofs.Remembering.{remembered}
use Rattle.guarantee.proofs.Played.{with_call_lem, Before, Played}
use Rattle.guarantee.proofs.calls.Prepare.{prepare_played}
use Rattle.guarantee.proofs.calls.Copy.{copy_played}
use Rattle.guarantee.proofs.calls.Trim.{trim_played}
use Rattle.guarantee.proofs.calls.Send.{send_played}
use Rattle.guarantee.proofs.calls.Note.{note_played}
use Rattle.guarantee.proofs.calls.Read.{read_played}
use Rattle.guarantee.proofs.calls.Export.{export_played}
use Rattle.guarantee.proofs.calls.Stop.{stop_played}
use Rattle.guarantee.proofs.calls.Reassign.{reassign_played}
use Rattle.guarantee.proofs.calls.Take.{take_played}
use Rattle.guarantee.proofs.calls.Issue.{issue_played}
use Rattle.guarantee.proofs.calls.Open.{open_played}
use Rattle.guarantee.proofs.calls.Restore.{restore_played}

-- ================ one call

module _ (h : Shape) (x : State) (H : History) (σ : protocol.State) (beside : Element) where
  played : (c : Call) → Before h x H σ (with_call_lem c beside) → Played h x H σ (with_call_lem c beside)
  played (call.Take s f) B = take_played h x H σ beside s f B
  played (call.Prepare s i f) B = prepare_played h x H σ beside s i f B
  played (call.Copy s a b f) B = copy_played h x H σ beside s a b f B
  played (call.Trim s i f) B = trim_played h x H σ beside s i f B
  played (call.Open s f) B = open_played h x H σ beside s f B
  played (call.Issue s q) B = issue_played h x H σ beside s q B
  played (call.Send s i f) B = send_played h x H σ beside s i f B
  played (call.Note s i f) B = note_played h x H σ beside s i f B
  played (call.Read s i n f) B = read_played h x H σ beside s i n f B
  played (call.Export s i f) B = export_played h x H σ beside s i f B
  played (call.Stop s) B = stop_played h x H σ beside s B
  played call.Reassign B = reassign_played h x H σ beside B
  played (call.Restore i) B = restore_played h x H σ beside i B

-- no effect is replied to with a refusal: the history hears of it
heard_effect : (h : Shape) (x : State) (p : Input) (H K : History) → heard (effect h x p p.call).reply H K ≡ K
unfolding heard
heard_effect h x p H K = let r = (declines h x p).replies in rw r.1 (go (is_answered p.call) r.0)
  where
    go : (b : Bool) (values : List ℕ) → heard (cond b (ok values) silent) H K ≡ K
    go true values = refl
    go false values = refl

-- ---- the call counts as one, and leaves a moment

-- the tie, and what may be restored; carried together along a list
pub record Tied (h : Shape) (x : State) (H : History) (σ : protocol.State) : Type 0 where
  pub sim : Sim h x H σ
  pub past : Past h H.past σ

counted_sim : (h : Shape) (x : State) (H : History) (σ : protocol.State) → Sim h x H σ → Sim h x (counted x.media H) σ
counted_sim h x H σ S =
    record { R = S.R; Q = S.Q; register = S.register; replicas = S.replicas; servers = S.servers; sessions = S.sessions }

-- what is held now may be restored later
counted_past : (h : Shape) (x : State) (H : History) (σ : protocol.State) → Sim h x H σ → Inv σ → Past h H.past σ
    → Past h (counted x.media H).past σ
counted_past h x H σ S I P k i l =
    set_at_elim (λ (y : Earlier). Backed h.places (medium_at h.places i y.media) (y.standing i) σ)
    H.past (suc H.calls) (record { media = x.media; standing = H.standing }) k
    (λ e. record { copy = copy_of σ i; tie = S.replicas.each i l; can = held σ I i }) (λ d. P k i l)

-- what could be restored still can
kept_past : (h : Shape) (past : ℕ → Earlier) (σ τ : protocol.State) → Inv σ → Steps σ τ → Past h past σ → Past h past τ
kept_past h past σ τ I r P k i l = let b = P k i l in record { copy = b.copy; tie = b.tie; can = lasts I r (content_of b.copy) b.can }

module _ (h : Shape) (m : Moment) (e : Element) where
  abbrev x : State
  x = m.state

  abbrev H : History
  H = m.history

  -- what the call does if it is not declined
  abbrev r : Result
  r = effect h x e.input e.input.call

  abbrev K : History
  K = told h x e r H e.input.call

  pub next_declined : Refused h m.state e.input
      → next h m e ≡ record { state = m.state; history = counted m.state.media m.history }
  unfolding next heard
  next_declined q = rw q.result

  pub next_passed : Passes h m.state e.input
      → let r = effect h m.state e.input e.input.call in
      next h m e ≡ record { state = r.state; history = counted r.state.media (told h m.state e r m.history e.input.call) }
  unfolding next
  next_passed q = rw (step_passes h x e.input q, heard_effect h x e.input H K)

  -- the tie after the call, where it left y and J
  after : (y : State) (J : History) → J.past ≡ H.past → (σ : protocol.State) → Inv σ → Past h H.past σ → Goes h σ y J
      → (τ : protocol.State) × Steps σ τ × Tied h y (counted y.media J) τ
  after y J p σ I P w =
      let τ = w.0 in
      let kept : Past h J.past τ = rw p (kept_past h H.past σ τ I w.1 P) in (
        τ,
        w.1,
        record { sim = counted_sim h y J τ w.2; past = counted_past h y J τ w.2 (steps_inv w.1 I) kept },
      )

  one_call : InRange h → (σ : protocol.State) → Tied h m.state m.history σ → Inv σ → Covered h m e
      → (τ : protocol.State) × Steps σ τ × Tied h (next h m e).state (next h m e).history τ
  one_call range σ T I a = go (judged h x e.input)
    where
      go : Refused h x e.input ⊎ Passes h x e.input
          → (τ : protocol.State) × Steps σ τ × Tied h (next h m e).state (next h m e).history τ
      go (inl q) = rw (next_declined q) (after x H refl σ I T.past (σ, Steps.none, T.sim))
      go (inr q) =
          rw (next_passed q)
          (after r.state K (remembered h x e r H e.input.call).past σ I T.past
          (played h x H σ e e.input.call
          (record { range = range; sim = T.sim; inv = I; passes = q; passed = passed h x e.input q; covered = a; past = T.past })))

-- ================ a list of calls

pub all_calls : (h : Shape) → InRange h → (es : List Element) (m : Moment) (ρ σ : protocol.State) → Steps ρ σ → Inv ρ
    → Tied h m.state m.history σ → CoveredAll h m es
    → (τ : protocol.State) × Steps ρ τ × Tied h (along h m es).state (along h m es).history τ
unfolding along
all_calls h range [] m ρ σ r I T a = (σ, r, T)
all_calls h range (e ∷ es) m ρ σ r I T a =
    let w = one_call h m e range σ T (steps_inv r I) a.0 in
    all_calls h range es (next h m e) ρ w.0 (r ▸▸ w.1) I w.2 a.1

-- after a list of calls from a fresh cluster: a state of the protocol that a list of events from its fresh one leaves, with the invariant and the tie
pub record FromFresh (h : Shape) (m : Moment) : Type 0 where
  pub state : protocol.State
  pub steps : Steps (protocol.fresh h.replicas (quorum h.replicas)) state
  pub inv : Inv state
  pub tied : Tied h m.state m.history state

pub fresh_tied : (h : Shape) → InRange h
    → Tied h (beginning h).state (beginning h).history (protocol.fresh h.replicas (quorum h.replicas))
fresh_tied h range = record { sim = fresh_tie h range; past = fresh_past h range }

pub from_fresh : (h : Shape) → InRange h → (es : List Element) → CoveredAll h (beginning h) es → FromFresh h (along h (beginning h) es)
from_fresh h range es a =
    let R = h.replicas in
    let q = quorate h range in
    let I = fresh_inv R (quorum R) q.0 q.1 in
    let w = all_calls h range es (beginning h) (protocol.fresh R (quorum R)) _ Steps.none I (fresh_tied h range) a in
    record { state = w.0; steps = w.1; inv = steps_inv w.1 I; tied = w.2 }
