-- The history of a recovery's calls: those before its open open no session and do not ask which replica is read; its open keeps whose session is whose, and
-- opens a session exactly if it changes the register.
-- Assumes nothing.
use mathlib.Core.Path.{◌≡◌, refl, sym, ap, ◌∙◌}
use mathlib.Core.Logic.{◌⊎◌, inl, inr}
use mathlib.Core.Bool.{Bool, true, false, cond, true≢false}
use mathlib.Core.List.{List, [], ◌∷◌, map}
use Prim.Native.Nat.{ℕ}
use Rattle.fate.specs.declared.Fate.{Fate}
use Rattle.cluster.specs.declared.Shape.{Shape}
use Rattle.cluster.specs.declared.Call.{Call}
use Rattle.cluster.specs.declared.Call.TheVariants as call
use Rattle.cluster.specs.State.{State}
use Rattle.cluster.specs.Replies.{Reply, ok, no, silent}
use Rattle.cluster.specs.Refusals.{Input}
use Rattle.cluster.specs.Effects.{Result}
use Rattle.cluster.specs.Step.{effect, step}
use Rattle.recovery.specs.Recovery.{bare}
use Rattle.guarantee.specs.Registers.{changed}
use Rattle.guarantee.specs.History.{Element, Session, History, set_at, stands, starting_mark, opened_at, told, heard, Moment, next, along}
use Rattle.guarantee.specs.Recoveries.{reading}
use Rattle.guarantee.proofs.Sessions.{set_at_same, set_at_elim}
use Rattle.guarantee.proofs.Registers.{unchanged}
use Rattle.guarantee.proofs.Passing.{Passes, Refused, judged}
use Rattle.guarantee.proofs.Along.{next_declined, next_passed}
use Rattle.guarantee.proofs.Driven.{AllQuiet}

heard_elim : (P : History → Type 0) (r : Reply) (H J : History) → P H → P J → P (heard r H J)
unfolding heard
heard_elim P (ok vs) H J k l = l
heard_elim P silent H J k l = l
heard_elim P (no n vs) H J k l = k

-- ================ before the open

module _ (h : Shape) where
  abbrev NoOpen : Call → Type 0
  NoOpen c = (s : ℕ) (f : Fate) → c ≡ call.Open s f → ⊥

  -- a session that is set anew, as opened as it was
  as_opened : (H : History) (s : ℕ) (y : Session) → y.opened ≡ (H.sessions s).opened → (z : ℕ)
      → (set_at H.sessions s y z).opened ≡ (H.sessions z).opened
  as_opened H s y e z =
      set_at_elim (λ (w : Session). w.opened ≡ (H.sessions z).opened) H.sessions s y z
      (λ q. e ∙ ap (λ (t : ℕ). (H.sessions t).opened) q)
      (λ n. refl)

  told_opened : (x : State) (e : Element) (r : Result) (H : History) (c : Call) → NoOpen c → (z : ℕ)
      → ((told h x e r H c).sessions z).opened ≡ (H.sessions z).opened
  unfolding told
  told_opened x e r H (call.Open s f) n z = absurd (n s f refl)
  told_opened x e r H (call.Copy s a b f) n z = as_opened H (H.current s) _ refl z
  told_opened x e r H (call.Send s i f) n z = as_opened H (H.current s) _ refl z
  told_opened x e r H (call.Issue s q) n z = as_opened H (H.current s) _ refl z
  told_opened x e r H (call.Take s f) n z = refl
  told_opened x e r H (call.Prepare s i f) n z = refl
  told_opened x e r H (call.Trim s i f) n z = refl
  told_opened x e r H (call.Note s i f) n z = refl
  told_opened x e r H (call.Read s i k f) n z = refl
  told_opened x e r H (call.Export s i f) n z = refl
  told_opened x e r H (call.Stop s) n z = refl
  told_opened x e r H call.Reassign n z = refl
  told_opened x e r H (call.Restore i) n z = refl

  told_reader : (x : State) (p : Input) (a b : ℕ) (r : Result) (H : History) (c : Call) → NoOpen c
      → told h x (reading a p) r H c ≡ told h x (reading b p) r H c
  unfolding told
  told_reader x p a b r H (call.Open s f) n = absurd (n s f refl)
  told_reader x p a b r H (call.Take s f) n = refl
  told_reader x p a b r H (call.Prepare s i f) n = refl
  told_reader x p a b r H (call.Copy s i j f) n = refl
  told_reader x p a b r H (call.Trim s i f) n = refl
  told_reader x p a b r H (call.Issue s q) n = refl
  told_reader x p a b r H (call.Send s i f) n = refl
  told_reader x p a b r H (call.Note s i f) n = refl
  told_reader x p a b r H (call.Read s i k f) n = refl
  told_reader x p a b r H (call.Export s i f) n = refl
  told_reader x p a b r H (call.Stop s) n = refl
  told_reader x p a b r H call.Reassign n = refl
  told_reader x p a b r H (call.Restore i) n = refl

  next_opened : (m : Moment) (e : Element) → NoOpen e.input.call → (z : ℕ) → ((next h m e).history.sessions z).opened ≡ (m.history.sessions z).opened
  unfolding next
  next_opened m e n z =
      let H = m.history in
      let r = step h m.state e.input in
      let J = told h m.state e r H e.input.call in
      heard_elim (λ (K : History). (K.sessions z).opened ≡ (H.sessions z).opened) r.reply H J refl (told_opened m.state e r H e.input.call n z)

  next_reader : (m : Moment) (p : Input) (a b : ℕ) → NoOpen p.call → next h m (reading a p) ≡ next h m (reading b p)
  unfolding next
  next_reader m p a b n = rw (told_reader m.state p a b (step h m.state p) m.history p.call n)

  -- no session is opened
  pub quiet_opened : (ps : List Input) → AllQuiet ps → (m : Moment) (a z : ℕ)
      → ((along h m (map (reading a) ps)).history.sessions z).opened ≡ (m.history.sessions z).opened
  unfolding along
  quiet_opened [] q m a z = refl
  quiet_opened (p ∷ ps) q m a z =
      quiet_opened ps q.1 (next h m (reading a p)) a z ∙ next_opened m (reading a p) q.0.no_open z

  -- and it doesn't matter which replica would be read
  pub quiet_reader : (ps : List Input) → AllQuiet ps → (m : Moment) (a b : ℕ) → along h m (map (reading a) ps) ≡ along h m (map (reading b) ps)
  unfolding along
  quiet_reader [] q m a b = refl
  quiet_reader (p ∷ ps) q m a b =
      ap (λ (k : Moment). along h k (map (reading a) ps)) (next_reader m p a b q.0.no_open) ∙ quiet_reader ps q.1 (next h m (reading b p)) a b

-- ================ the open

module _ (h : Shape) (m : Moment) (s : ℕ) (f : Fate) (a : ℕ) where
  abbrev e : Element
  e = reading a (bare (call.Open s f) [])

  abbrev k : Moment
  k = next h m e

  abbrev r : Result
  r = step h m.state e.input

  abbrev changes : Bool
  changes = changed m.state.records.register k.state.records.register

  -- what an open adds to the history, if it changes the register
  abbrev adds : History
  adds = opened_at m.history (m.history.current s) (starting_mark h m.state e.input s) (stands h.places m.state m.history a)

  pub open_current : k.history.current s ≡ m.history.current s
  unfolding next told
  open_current = heard_elim (λ (K : History). K.current s ≡ m.history.current s) r.reply m.history (cond changes adds m.history) refl (go changes)
    where
      go : (b : Bool) → (cond b adds m.history).current s ≡ m.history.current s
      go true = refl
      go false = refl

  pub opened_changed : (z : ℕ) → (m.history.sessions z).opened ≡ false → (k.history.sessions z).opened ≡ true → changes ≡ true
  unfolding next told
  opened_changed z n o = go changes refl
    where
      go : (b : Bool) → changes ≡ b → b ≡ true
      go true c = refl
      go false c =
          let same : (k.history.sessions z).opened ≡ (m.history.sessions z).opened =
          heard_elim (λ (K : History). (K.sessions z).opened ≡ (m.history.sessions z).opened) r.reply m.history (cond changes adds m.history) refl (rw c) in
          absurd (true≢false (sym o ∙ same ∙ n))

  -- a call that changes the register is not declined
  pub changed_opened : changes ≡ true → (k.history.sessions (m.history.current s)).opened ≡ true
  unfolding told
  changed_opened c = go (judged h m.state e.input)
    where
      go : Refused h m.state e.input ⊎ Passes h m.state e.input → (k.history.sessions (m.history.current s)).opened ≡ true
      go (inl q) =
          let g = m.state.records.register in
          absurd (true≢false (sym c ∙ ap (λ (n : Moment). changed g n.state.records.register) (next_declined h m e q) ∙ unchanged g))
      go (inr q) =
          let g = m.state.records.register in
          let w = next_passed h m e q in
          let y = effect h m.state e.input e.input.call in
          let d : changed g y.state.records.register ≡ true = sym (ap (λ (n : Moment). changed g n.state.records.register) w) ∙ c in
          ap (λ (n : Moment). (n.history.sessions (m.history.current s)).opened) w
          ∙ ap (λ (b : Bool). ((cond b adds m.history).sessions (m.history.current s)).opened) d
          ∙ ap (λ (t : Session). t.opened) (set_at_same m.history.sessions (m.history.current s) _)
