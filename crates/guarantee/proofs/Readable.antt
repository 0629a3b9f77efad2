-- EVERY LIST OF CALLS WHOSE ARGUMENTS FIT IS A LIST OF THE GUARANTEE, if its restores have bytes that stood. The guarantee asks that for each call that
-- opens a session a replica is named whose entry the call sets to the session; which replicas these are depends on the run. There always is one. For each
-- restore that is not declined it asks for a moment at which the bytes stood on the replica: any list of calls may hold a restore with bytes that did, and
-- of a list without restores no more is asked than that the arguments fit: `readable`, `without_restores`.
-- The statement comes first, then its proof.
-- Assumes nothing.
use mathlib.Core.Path.{◌≡◌, refl, sym, ap, ◌∙◌}
use mathlib.Core.Logic.{◌⊎◌, inl, inr, ⊎_elim}
use mathlib.Core.Bool.{Bool, true, false, not, cond, ◌&&◌, true≢false}
use mathlib.Core.List.Memᴰ
use mathlib.Core.List.{List, [], ◌∷◌, Memᴰ}
use Prim.Native.Nat.{ℕ, suc, ◌≤◌, ◌<◌}
use native.Mathlib.Omega.{arith}
use lib.ListN.{length}
use borrow.Author.Tests.{ltb-false}
use Rattle.base.specs.Below.{count}
use Rattle.base.proofs.Below.{count_some}
use Rattle.quorum.specs.Vote.{quorum}
use Rattle.fate.specs.declared.Fate.{Fate}
use Rattle.storage.specs.Operations.{medium_at}
use Rattle.protocol.specs.State as protocol
use Rattle.protocol.specs.Events.{Steps}
use Rattle.protocol.proofs.Invariant.{Inv}
use Rattle.protocol.proofs.Fresh.{fresh_inv}
use Rattle.cluster.specs.declared.Shape.{Shape}
use Rattle.cluster.specs.declared.Register.{Register}
use Rattle.cluster.specs.declared.Server.{Server}
use Rattle.cluster.specs.declared.Call.{Call}
use Rattle.cluster.specs.declared.Call.TheVariants as call
use Rattle.cluster.specs.State.{State, server_at, entry_at, fresh}
use Rattle.cluster.specs.Refusals.{Input, vote_mark, clean_at, session_differs}
use Rattle.cluster.specs.Effects.{Result, arrives, opened_register, open_effect}
use Rattle.cluster.specs.Step.{step}
use Rattle.guarantee.specs.Registers.{changed}
use Rattle.guarantee.specs.History.{Element, Earlier, History, with_call, Moment, next, beginning, along}
use Rattle.guarantee.specs.Guarantee.{InRange, Fits, Covered, CoveredAll}
use Rattle.guarantee.proofs.Ties.{Sim}
use Rattle.guarantee.proofs.Facts.{at_most_seven, quorate, opening_lives}
use Rattle.guarantee.proofs.Passing.{below_four, Passes, step_passes, Refused, judged, passed, is_opening_lem}
use Rattle.guarantee.proofs.Registers.{unchanged, entry_set}
use Rattle.guarantee.proofs.Along.{Tied, all_calls, fresh_tied}
use Rattle.guarantee.proofs.Sessions.{set_at_same, set_at_other}
use Rattle.guarantee.proofs.Remembering.{Counted, counts}

-- ================ the statement

abbrev pub FitAll : List Input → Type 0
FitAll [] = Unit {0}
FitAll (p ∷ ps) = Fits p × FitAll ps

-- the register after a call
abbrev pub after : Shape → State → Input → Register
after h x p = (step h x p).state.records.register

-- Document 02, No. 10: "bytes that the same replica held between two earlier calls", of a restore that is not declined. seen has the media of each moment
-- so far, and x is the state of now.
abbrev pub Stood : Shape → List (List ℕ) → State → Input → Type 0
Stood h seen x p = (i : ℕ) → p.call ≡ call.Restore i → changed x.records.register (after h x p) ≡ true
    → (media : List ℕ) × Memᴰ media seen × (p.backup ≡ medium_at h.places i media)

abbrev pub StoodAll : Shape → List (List ℕ) → State → List Input → Type 0
StoodAll h seen x [] = Unit {0}
StoodAll h seen x (p ∷ ps) = let y = (step h x p).state in Stood h seen x p × StoodAll h (y.media ∷ seen) y ps

-- the calls of a list, without the replicas read and the moments named
abbrev pub inputs : List Element → List Input
inputs [] = []
inputs (e ∷ es) = e.input ∷ inputs es

abbrev pub Readable : Type 0
Readable = (h : Shape) → InRange h → (ps : List Input) → FitAll ps → StoodAll h ((fresh h).media ∷ []) (fresh h) ps
    → (es : List Element) × (inputs es ≡ ps) × CoveredAll h (beginning h) es

-- of a list without restores nothing is asked but that the arguments fit
abbrev pub NoRestores : List Input → Type 0
NoRestores [] = Unit {0}
NoRestores (p ∷ ps) = ((i : ℕ) → p.call ≡ call.Restore i → ⊥) × NoRestores ps

abbrev pub WithoutRestores : Type 0
WithoutRestores = (h : Shape) → InRange h → (ps : List Input) → FitAll ps → NoRestores ps
    → (es : List Element) × (inputs es ≡ ps) × CoveredAll h (beginning h) es

-- ================ one call

-- an open sets the register's entries, or leaves the register
opened_or_not : (h : Shape) (x : State) (s : ℕ) (f : Fate) (b : Bool)
    → (arrives f && not (session_differs x.records.register (server_at x.records s))) ≡ b
    → (open_effect h.replicas (vote_mark h.replicas (server_at x.records s)) x s f).state.records.register
    ≡ cond b (opened_register h.replicas x.records.register (server_at x.records s) (vote_mark h.replicas (server_at x.records s))) x.records.register
unfolding open_effect
opened_or_not h x s f b e = rw e

-- the media seen are those of the history's moments
abbrev pub Seen : History → List (List ℕ) → Type 0
Seen H seen = (media : List ℕ) → Memᴰ media seen → (k : ℕ) × (k ≤ H.calls) × ((H.past k).media ≡ media)

module _ (h : Shape) (range : InRange h) (x : State) (H : History) (σ : protocol.State) (S : Sim h x H σ) where
  -- replica a may be read
  abbrev Reads : Input → ℕ → Type 0
  Reads p a = (s : ℕ) (f : Fate) → p.call ≡ call.Open s f → changed x.records.register (after h x p) ≡ true
      → (a < h.replicas) × ((entry_at (after h x p).entries a).session ≡ H.current s)

  -- moment k may be named
  abbrev Restores : Input → ℕ → Type 0
  Restores p k = (i : ℕ) → p.call ≡ call.Restore i → changed x.records.register (after h x p) ≡ true
      → (k ≤ H.calls) × (p.backup ≡ medium_at h.places i (H.past k).media)

  -- both, for a call
  pub record Named (p : Input) : Type 0 where
    pub reader : ℕ
    pub moment : ℕ
    pub reads : Reads p reader
    pub restores : Restores p moment

  -- any, where the register stays
  same_register : (p : Input) → after h x p ≡ x.records.register → Reads p 0
  same_register p e s f q c = absurd (true≢false (sym c ∙ ap (changed x.records.register) e ∙ unchanged x.records.register))

  module _ (s : ℕ) (f : Fate) (arguments : Input) where
    abbrev p : Input
    p = with_call (call.Open s f) arguments

    abbrev g : Register
    g = x.records.register

    abbrev v : Server
    v = server_at x.records s

    -- at least Q replicas are clean, and the open sets their entries
    passes : Passes h x p → (b : Bool) → (arrives f && not (session_differs g v)) ≡ b → (a : ℕ) × Reads p a
    passes q false e = (0, same_register p (ap (λ (r : Result). r.state.records.register) (step_passes h x p q) ∙ opened_or_not h x s f false e))
    passes q true e =
        let P = passed h x p q in
        let k : after h x p ≡ opened_register h.replicas g v (vote_mark h.replicas v) =
        ap (λ (r : Result). r.state.records.register) (step_passes h x p q) ∙ opened_or_not h x s f true e in
        let w = count_some (clean_at v (vote_mark h.replicas v)) h.replicas
        (omega (arith, (quorate h range).0, ltb-false (count (clean_at v (vote_mark h.replicas v)) h.replicas) (quorum h.replicas) (P 9))) in
        let c = (S.servers.each s (below_four s (P 3))).current (opening_lives v (is_opening_lem v.phase (P 5))) in
        let room : h.replicas ≤ length g.entries = omega (arith, at_most_seven h range, S.register.size) in (
          w.0,
          λ t u r d.
              let st : s ≡ t = cc in (
                w.1,
                ap (λ (z : Register). (entry_at z.entries w.0).session) k
                    ∙ entry_set h.replicas g v room w.0 w.1 w.2
                    ∙ sym c
                    ∙ ap H.current st,
              ),
        )

    opens : (a : ℕ) × Reads p a
    opens = go (judged h x p)
      where
        go : Refused h x p ⊎ Passes h x p → (a : ℕ) × Reads p a
        go (inl q) = (0, same_register p (ap (λ (r : Result). r.state.records.register) q.result))
        go (inr q) = passes q (arrives f && not (session_differs g v)) refl

  -- a call that is neither an open nor a restore
  other : (p : Input) → ((s : ℕ) (f : Fate) → p.call ≡ call.Open s f → ⊥) → ((i : ℕ) → p.call ≡ call.Restore i → ⊥) → Named p
  other p n r = record { reader = 0; moment = 0; reads = λ s f e c. absurd (n s f e); restores = λ i e c. absurd (r i e) }

  module _ (seen : List (List ℕ)) (known : Seen H seen) where
    -- a restore: its bytes stood at a moment that is known
    restored : (p : Input) (i : ℕ) → p.call ≡ call.Restore i → Stood h seen x p → Named p
    restored p i q stood = go (changed x.records.register (after h x p)) refl
      where
        no_open : (s : ℕ) (f : Fate) → p.call ≡ call.Open s f → ⊥
        no_open s f e = let z : ◌≡◌ {A = ℕ} 0 1 = cc in omega arith

        go : (b : Bool) → changed x.records.register (after h x p) ≡ b → Named p
        go false c =
            record { reader = 0; moment = 0; reads = λ s f e d. absurd (no_open s f e); restores = λ j e d. absurd (true≢false (sym d ∙ c)) }
        go true c =
            let w = stood i q c in
            let k = known w.0 w.1 in
            record {
              reader = 0;
              moment = k.0;
              reads = λ s f e d. absurd (no_open s f e);
              restores = λ j e d. let ij : i ≡ j = cc in (k.1, w.2 ∙ cc (k.2, ij));
            }

    of_call : (c : Call) (a : Input) → Stood h seen x (with_call c a) → Named (with_call c a)
    of_call (call.Open s f) a w =
        record { reader = (opens s f a).0; moment = 0; reads = (opens s f a).1; restores = λ i e c. let z : ◌≡◌ {A = ℕ} 0 1 = cc in absurd (omega arith) }
    of_call (call.Restore i) a w = restored (with_call (call.Restore i) a) i refl w
    of_call (call.Take s f) a w = other _ (λ t u e. let z : ◌≡◌ {A = ℕ} 0 1 = cc in omega arith) (λ j e. let z : ◌≡◌ {A = ℕ} 0 1 = cc in omega arith)
    of_call (call.Prepare s i f) a w = other _ (λ t u e. let z : ◌≡◌ {A = ℕ} 0 1 = cc in omega arith) (λ j e. let z : ◌≡◌ {A = ℕ} 0 1 = cc in omega arith)
    of_call (call.Copy s i j f) a w = other _ (λ t u e. let z : ◌≡◌ {A = ℕ} 0 1 = cc in omega arith) (λ j e. let z : ◌≡◌ {A = ℕ} 0 1 = cc in omega arith)
    of_call (call.Trim s i f) a w = other _ (λ t u e. let z : ◌≡◌ {A = ℕ} 0 1 = cc in omega arith) (λ j e. let z : ◌≡◌ {A = ℕ} 0 1 = cc in omega arith)
    of_call (call.Issue s q) a w = other _ (λ t u e. let z : ◌≡◌ {A = ℕ} 0 1 = cc in omega arith) (λ j e. let z : ◌≡◌ {A = ℕ} 0 1 = cc in omega arith)
    of_call (call.Send s i f) a w = other _ (λ t u e. let z : ◌≡◌ {A = ℕ} 0 1 = cc in omega arith) (λ j e. let z : ◌≡◌ {A = ℕ} 0 1 = cc in omega arith)
    of_call (call.Note s i f) a w = other _ (λ t u e. let z : ◌≡◌ {A = ℕ} 0 1 = cc in omega arith) (λ j e. let z : ◌≡◌ {A = ℕ} 0 1 = cc in omega arith)
    of_call (call.Read s i n f) a w = other _ (λ t u e. let z : ◌≡◌ {A = ℕ} 0 1 = cc in omega arith) (λ j e. let z : ◌≡◌ {A = ℕ} 0 1 = cc in omega arith)
    of_call (call.Export s i f) a w = other _ (λ t u e. let z : ◌≡◌ {A = ℕ} 0 1 = cc in omega arith) (λ j e. let z : ◌≡◌ {A = ℕ} 0 1 = cc in omega arith)
    of_call (call.Stop s) a w = other _ (λ t u e. let z : ◌≡◌ {A = ℕ} 0 1 = cc in omega arith) (λ j e. let z : ◌≡◌ {A = ℕ} 0 1 = cc in omega arith)
    of_call call.Reassign a w = other _ (λ t u e. let z : ◌≡◌ {A = ℕ} 0 1 = cc in omega arith) (λ j e. let z : ◌≡◌ {A = ℕ} 0 1 = cc in omega arith)

    pub named : (p : Input) → Stood h seen x p → Named p
    named p w = of_call p.call p w

-- ================ a list of calls

-- the moment that a call leaves is seen too
module _ (h : Shape) (m : Moment) (e : Element) (seen : List (List ℕ)) (known : Seen m.history seen) where
  abbrev y : State
  y = (step h m.state e.input).state

  C : Counted h m e
  C = counts h m e

  abbrev J : History
  J = C.history

  abbrev last : Earlier
  last = record { media = y.media; standing = J.standing }

  -- these media are of a moment up to the one that the call leaves
  abbrev Known : List ℕ → Type 0
  Known media = (k : ℕ) × (k ≤ (next h m e).history.calls) × (((next h m e).history.past k).media ≡ media)

  now : (media : List ℕ) → media ≡ y.media → Known media
  now media q = rw C.result (suc J.calls, omega arith, ap (λ (l : Earlier). l.media) (set_at_same J.past (suc J.calls) last) ∙ sym q)

  before : (media : List ℕ) → Memᴰ media seen → Known media
  before media i =
      let w = known media i in
      let l : w.0 ≤ J.calls = omega (arith, w.1, C.remembers.calls) in
      let p : (J.past w.0).media ≡ media = ap (λ (f : ℕ → Earlier). (f w.0).media) C.remembers.past ∙ w.2 in
      rw C.result (
        w.0,
        omega arith,
        ap (λ (l : Earlier). l.media) (set_at_other J.past (suc J.calls) last w.0 (λ e. omega arith)) ∙ p,
      )

  pub seen_next : Seen (next h m e).history ((step h m.state e.input).state.media ∷ seen)
  seen_next media i = ⊎_elim (now media) (before media) (Memᴰ.cases_cons i)

pub seen_first : (h : Shape) → Seen (beginning h).history ((fresh h).media ∷ [])
unfolding beginning
seen_first h media i = (0, omega arith, ⊎_elim (λ q. sym q) (λ j. absurd (Memᴰ.not-nil j)) (Memᴰ.cases_cons i))

module _ (h : Shape) (range : InRange h) where
  I : Inv (protocol.fresh h.replicas (quorum h.replicas))
  I = fresh_inv h.replicas (quorum h.replicas) (quorate h range).0 (quorate h range).1

  from : (ps : List Input) → FitAll ps → (m : Moment) (seen : List (List ℕ)) → Seen m.history seen → StoodAll h seen m.state ps
      → (σ : protocol.State) → Steps (protocol.fresh h.replicas (quorum h.replicas)) σ → Tied h m.state m.history σ
      → (es : List Element) × (inputs es ≡ ps) × CoveredAll h m es
  unfolding along next
  from [] fit m seen known stood σ r T = ([], refl, tt)
  from (p ∷ ps) fit m seen known stood σ r T =
      let w = named h range m.state m.history σ T.sim seen known p stood.0 in
      let e : Element = record { input = p; reader = w.reader; moment = w.moment } in
      let a : Covered h m e = record { fits = fit.0; reads = w.reads; restores = w.restores } in
      let n = all_calls h range (e ∷ []) m _ σ r I T (a, tt) in
      let rest = from ps fit.1 (next h m e) _ (seen_next h m e seen known) stood.1 n.0 n.1 n.2 in
      (e ∷ rest.0, ap (λ (l : List Input). p ∷ l) rest.1, (a, rest.2))

pub readable : Readable
unfolding beginning
readable h range ps fit stood = from h range ps fit (beginning h) _ (seen_first h) stood _ Steps.none (fresh_tied h range)

none_stood : (h : Shape) (ps : List Input) → NoRestores ps → (seen : List (List ℕ)) (x : State) → StoodAll h seen x ps
none_stood h [] n seen x = tt
none_stood h (p ∷ ps) n seen x =
    let y = (step h x p).state in
    (λ i e c. absurd (n.0 i e), none_stood h ps n.1 (y.media ∷ seen) y)

pub without_restores : WithoutRestores
without_restores h range ps fit n = readable h range ps fit (none_stood h ps n ((fresh h).media ∷ []) (fresh h))
