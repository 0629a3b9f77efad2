-- open: the session is opened at the decided mark, with what the clean replica that is read holds. Where the answer is lost the server is idle.
-- Assumes nothing.
use mathlib.Core.Path.{◌≡◌, refl, ap, ◌∙◌}
use mathlib.Core.Bool.{Bool, true, false, true≢false}
use mathlib.Core.List.{[], ◌∷◌}
use Prim.Native.Nat.{ℕ, ◌<◌}
use Rattle.fate.specs.declared.Fate.{Fate}
use Rattle.fate.specs.declared.Fate.TheVariants.{Answered, Lost, AnswerLost, Cut}
use Rattle.protocol.specs.State as protocol
use Rattle.protocol.specs.Events.{after_open, Steps}
use Rattle.protocol.proofs.Traces.{open_answered}
use Rattle.cluster.specs.declared.Shape.{Shape}
use Rattle.cluster.specs.declared.Register.{Register}
use Rattle.cluster.specs.declared.Phase.TheVariants.{Opening}
use Rattle.cluster.specs.declared.Server.{Server}
use Rattle.cluster.specs.declared.Call.TheVariants as call
use Rattle.cluster.specs.State.{State, idle_server, server_at, put_server, put_register}
use Rattle.cluster.specs.Refusals.{Input, vote_mark, clean_at, session_differs}
use Rattle.cluster.specs.Replies.{ok}
use Rattle.cluster.specs.Step.{step}
use Rattle.cluster.specs.Effects.{Result, opened_register, open_effect}
use Rattle.guarantee.specs.History.{Element, History, value_or, answered_open, starting_mark, told, next}
use Rattle.guarantee.proofs.Ties.{row_of, Sim}
use Rattle.guarantee.proofs.Frames.{elsewhere, idle_frame}
use Rattle.guarantee.proofs.Passing.{below_four, Passes, step_passes, passes_answered, is_opening_lem}
use Rattle.guarantee.proofs.Registers.{unchanged}
use Rattle.guarantee.proofs.Facts.{opening_lives}
use Rattle.guarantee.proofs.Opening.{Found, found}
use Rattle.guarantee.proofs.Opened.{unanswered, answered}
use Rattle.guarantee.proofs.Played.{with_call_lem, Before, Played}

module _ (h : Shape) (x : State) (H : History) (σ : protocol.State) (beside : Element) (s : ℕ) (f : Fate)
    (B : Before h x H σ (with_call_lem (call.Open s f) beside)) where
  abbrev reader : ℕ
  reader = beside.reader

  S : Sim h x H σ
  S = B.sim

  abbrev R : ℕ
  R = h.replicas

  abbrev g : Register
  g = x.records.register

  abbrev v : Server
  v = server_at x.records s

  opens : v.phase ≡ Opening
  opens = is_opening_lem v.phase (B.passed 5)

  current : H.current s ≡ v.session
  current = (S.servers.each s (below_four s (B.passed 3))).current (opening_lives v opens)

  F : Found h x σ s
  F = found h x H σ beside s f B

  -- the message does not arrive, or the register declines it
  lost : Sim h (record { records = put_server (put_register x.records g) s idle_server; media = x.media; tables = x.tables }) H σ
  lost =
      record {
        R = S.R;
        Q = S.Q;
        register = S.register;
        replicas = S.replicas;
        servers =
            idle_frame _ _ _ _ _ S.servers s (below_four s (B.passed 3)) H.current (row_of σ) (elsewhere _ _ _ _ _ S.servers s (below_four s (B.passed 3)));
        sessions = S.sessions;
      }

  -- the replica that is read
  reads : (open_effect R (vote_mark R v) x s f).state.records.register ≡ opened_register R g v (vote_mark R v) → (reader < R) × (clean_at v (vote_mark R v) reader ≡ true)
  unfolding next
  reads e =
      let q = ap (λ (r : Result). r.state.records.register) (step_passes h x (with_call_lem (call.Open s f) beside).input B.passes) ∙ e in
      let r = B.covered.reads s f refl (rw q F.is_changed) in
      (r.0, F.is_clean reader r.0 (rw q at r.1 ∙ current))

-- an open answers its mark, if it is answered
pub open_answers : (h : Shape) (x : State) (p : Input) (s : ℕ) → Passes h x (answered_open p s)
    → (step h x (answered_open p s)).reply ≡ ok (vote_mark h.replicas (server_at x.records s) ∷ [])
unfolding open_effect
open_answers h x p s e = ap (λ (r : Result). r.reply) (step_passes h x (answered_open p s) e)

-- so that is the starting mark
starts_at : (h : Shape) (x : State) (p : Input) (s : ℕ) → Passes h x (answered_open p s)
    → starting_mark h x p s ≡ vote_mark h.replicas (server_at x.records s)
starts_at h x p s e = ap (value_or 0) (open_answers h x p s e)

module _ (h : Shape) (x : State) (H : History) (σ : protocol.State) (beside : Element) (s : ℕ) where
  abbrev Plays : Fate → Type 0
  Plays f =
      Before h x H σ (with_call_lem (call.Open s f) beside) → Played h x H σ (with_call_lem (call.Open s f) beside)

  abbrev differs : Bool
  differs = session_differs x.records.register (server_at x.records s)

  played_answered : Plays Answered
  unfolding open_effect told
  played_answered B =
      let v = server_at x.records s in
      let d = vote_mark h.replicas v in
      let same : differs ≡ false = B.passed 22 in
      let F = found h x H σ beside s Answered B in
      let p = opens h x H σ beside s Answered B in
      let r = reads h x H σ beside s Answered B (rw same) in
      rw (
        same,
        F.is_changed,
        current h x H σ beside s Answered B,
        starts_at h x (with_call_lem (call.Open s Answered) beside).input s B.passes,
      ) (
        after_open σ v.session d beside.reader,
        open_answered σ v.session d beside.reader (F.can same beside.reader r.0 r.1),
        answered h x H σ B.sim B.inv B.range s (below_four s (B.passed 3)) p F same beside.reader r.0 r.1,
      )

  played_unanswered : Plays AnswerLost
  unfolding open_effect told
  played_unanswered B = go differs refl
    where
      go : (b : Bool) → differs ≡ b → Played h x H σ (with_call_lem (call.Open s AnswerLost) beside)
      go true e = rw (e, unchanged x.records.register) (σ, Steps.none, lost h x H σ beside s AnswerLost B)
      go false e =
          let v = server_at x.records s in
          let d = vote_mark h.replicas v in
          let F = found h x H σ beside s AnswerLost B in
          let p = opens h x H σ beside s AnswerLost B in
          let r = reads h x H σ beside s AnswerLost B (rw e) in
          rw (
            e,
            F.is_changed,
            current h x H σ beside s AnswerLost B,
            starts_at h x (with_call_lem (call.Open s AnswerLost) beside).input s (passes_answered h x beside.input s e B.passes),
          ) (
            after_open σ v.session d beside.reader,
            open_answered σ v.session d beside.reader (F.can e beside.reader r.0 r.1),
            unanswered h x H σ B.sim B.inv B.range s (below_four s (B.passed 3)) p F e beside.reader r.0 r.1,
          )

  pub open_played : (f : Fate) → Plays f
  unfolding open_effect told
  open_played Answered B = played_answered B
  open_played Lost B = rw (unchanged x.records.register) (σ, Steps.none, lost h x H σ beside s Lost B)
  open_played AnswerLost B = played_unanswered B
  open_played (Cut w l) B = absurd (true≢false (B.passed 6))
