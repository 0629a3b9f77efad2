-- The outline of a list of calls: what each replies and which session it opens. The states are worked out once for it; the history, and that the
-- guarantee speaks of the list, are read off the outline, whatever the states are.
-- Assumes nothing.
use mathlib.Core.Path.{◌≡◌, refl, ap, ◌∙◌, subst, subst⁻¹}
use mathlib.Core.Bool.{Bool, true, false, cond}
use mathlib.Core.List.{List, [], ◌∷◌, ◌++◌}
use mathlib.Core.Option.{Option, none, some}
use Prim.Native.Nat.{ℕ, ◌≤◌, ◌<◌}
use native.Mathlib.Omega.{arith}
use Rattle.fate.specs.declared.Fate.{Fate}
use Rattle.storage.specs.Operations.{medium_at}
use Rattle.cluster.specs.declared.Shape.{Shape}
use Rattle.cluster.specs.declared.Call.{Call}
use Rattle.cluster.specs.declared.Call.TheVariants as call
use Rattle.cluster.specs.State.{State, entry_at}
use Rattle.cluster.specs.Replies.{Reply}
use Rattle.cluster.specs.Effects.{Result}
use Rattle.cluster.specs.Step.{step}
use Rattle.guarantee.specs.Registers.{changed}
use Rattle.guarantee.specs.History.{Element, History, stands, starting_mark, opened_at, told, heard, counted, Moment, next, along}
use Rattle.guarantee.specs.Guarantee.{Fits, CoveredAll}

-- ================ the outline

-- a call that opens a session: its starting mark, and the session that the entry of the replica read then has
pub record Opens : Type 0 where
  pub mark : ℕ
  pub entry : ℕ

abbrev pub opens_by : Shape → State → Element → Call → Option Opens
opens_by h x e (call.Open s f) =
    let k = (step h x e.input).state.records.register in
    cond (changed x.records.register k) (some (record { mark = starting_mark h x e.input s; entry = (entry_at k.entries e.reader).session })) none
opens_by h x e (call.Take s f) = none
opens_by h x e (call.Prepare s i f) = none
opens_by h x e (call.Copy s a b f) = none
opens_by h x e (call.Trim s i f) = none
opens_by h x e (call.Issue s q) = none
opens_by h x e (call.Send s i f) = none
opens_by h x e (call.Note s i f) = none
opens_by h x e (call.Read s i n f) = none
opens_by h x e (call.Export s i f) = none
opens_by h x e (call.Stop s) = none
opens_by h x e call.Reassign = none
opens_by h x e (call.Restore i) = none

pub record Line : Type 0 where
  pub reply : Reply
  pub opens : Option Opens

abbrev line_of : Shape → State → Element → Line
line_of h x e = record { reply = (step h x e.input).reply; opens = opens_by h x e e.input.call }

-- the lines, and the state that is left. The call's result is named, so that it is worked out once.
unfoldable pub outline : Shape → State → List Element → List Line × State
outline h x [] = ([], x)
outline h x (e ∷ es) =
    let r = step h x e.input in
    let o = outline h r.state es in
    (record { reply = r.reply; opens = opens_by h x e e.input.call } ∷ o.0, o.1)

pub outline_then : (h : Shape) (x : State) (es fs : List Element)
    → outline h x (es ++ fs) ≡ ((outline h x es).0 ++ (outline h (outline h x es).1 fs).0, (outline h (outline h x es).1 fs).1)
unfolding outline
outline_then h x [] fs = refl
outline_then h x (e ∷ es) fs = ap (λ (o : List Line × State). (line_of h x e ∷ o.0, o.1)) (outline_then h (step h x e.input).state es fs)

-- ================ the history by it

-- the result of a call, with the reply that its line has
abbrev replying : Shape → State → Element → Line → Result
replying h x e l = record { state = (step h x e.input).state; reply = l.reply; bytes = (step h x e.input).bytes }

abbrev opening : Option Opens → History → (ℕ → History) → History
opening none H opened = H
opening (some o) H opened = opened o.mark

-- the session of server s is opened at mark d
abbrev opened_by : Shape → State → Element → History → ℕ → ℕ → History
opened_by h x e H s d = opened_at H (H.current s) d (stands h.places x H e.reader)

-- what a call adds, by its line: only an open looks at the states
abbrev retell : Shape → State → Element → Line → History → Call → History
retell h x e l H (call.Open s f) = opening l.opens H (opened_by h x e H s)
retell h x e l H (call.Take s f) = told h x e (replying h x e l) H (call.Take s f)
retell h x e l H (call.Prepare s i f) = told h x e (replying h x e l) H (call.Prepare s i f)
retell h x e l H (call.Copy s a b f) = told h x e (replying h x e l) H (call.Copy s a b f)
retell h x e l H (call.Trim s i f) = told h x e (replying h x e l) H (call.Trim s i f)
retell h x e l H (call.Issue s q) = told h x e (replying h x e l) H (call.Issue s q)
retell h x e l H (call.Send s i f) = told h x e (replying h x e l) H (call.Send s i f)
retell h x e l H (call.Note s i f) = told h x e (replying h x e l) H (call.Note s i f)
retell h x e l H (call.Read s i n f) = told h x e (replying h x e l) H (call.Read s i n f)
retell h x e l H (call.Export s i f) = told h x e (replying h x e l) H (call.Export s i f)
retell h x e l H (call.Stop s) = told h x e (replying h x e l) H (call.Stop s)
retell h x e l H call.Reassign = told h x e (replying h x e l) H call.Reassign
retell h x e l H (call.Restore i) = told h x e (replying h x e l) H (call.Restore i)

abbrev next_by : Shape → State → Element → Line → History → History
next_by h x e l H = counted (step h x e.input).state.media (heard l.reply H (retell h x e l H e.input.call))

unfoldable pub retold : Shape → State → List Element → List Line → History → History
retold h x [] ls H = H
retold h x (e ∷ es) [] H = H
retold h x (e ∷ es) (l ∷ ls) H = retold h (step h x e.input).state es ls (next_by h x e l H)

retell_is : (h : Shape) (x : State) (e : Element) (H : History) (c : Call)
    → told h x e (step h x e.input) H c ≡ retell h x e (record { reply = (step h x e.input).reply; opens = opens_by h x e c }) H c
unfolding told
retell_is h x e H (call.Open s f) = go (changed x.records.register (step h x e.input).state.records.register)
  where
    go : (b : Bool)
        → let k = (step h x e.input).state.records.register in
        let d = starting_mark h x e.input s in
        cond b (opened_by h x e H s d) H
        ≡ opening (cond b (some (record { mark = d; entry = (entry_at k.entries e.reader).session })) none) H (opened_by h x e H s)
    go true = refl
    go false = refl
retell_is h x e H (call.Take s f) = refl
retell_is h x e H (call.Prepare s i f) = refl
retell_is h x e H (call.Copy s a b f) = refl
retell_is h x e H (call.Trim s i f) = refl
retell_is h x e H (call.Issue s p) = refl
retell_is h x e H (call.Send s i f) = refl
retell_is h x e H (call.Note s i f) = refl
retell_is h x e H (call.Read s i n f) = refl
retell_is h x e H (call.Export s i f) = refl
retell_is h x e H (call.Stop s) = refl
retell_is h x e H call.Reassign = refl
retell_is h x e H (call.Restore i) = refl

next_is : (h : Shape) (m : Moment) (e : Element)
    → next h m e ≡ record { state = (step h m.state e.input).state; history = next_by h m.state e (line_of h m.state e) m.history }
unfolding next
next_is h m e = rw (← retell_is h m.state e m.history e.input.call)

pub retold_is : (h : Shape) (es : List Element) (m : Moment)
    → (along h m es).history ≡ retold h m.state es (outline h m.state es).0 m.history
unfolding along outline retold
retold_is h [] m = refl
retold_is h (e ∷ es) m = ap (λ (k : Moment). (along h k es).history) (next_is h m e) ∙ retold_is h es _

-- ================ the guarantee speaks of it

-- a replica that is read has the session in its entry; and so on
abbrev Read : ℕ → ℕ → ℕ → Option Opens → Type 0 → Type 0
Read R reader session none more = more
Read R reader session (some o) more = ((reader < R) × (o.entry ≡ session)) × more

-- the server of an open
abbrev opener : Call → ℕ
opener (call.Open s f) = s
opener (call.Take s f) = 0
opener (call.Prepare s i f) = 0
opener (call.Copy s a b f) = 0
opener (call.Trim s i f) = 0
opener (call.Issue s q) = 0
opener (call.Send s i f) = 0
opener (call.Note s i f) = 0
opener (call.Read s i n f) = 0
opener (call.Export s i f) = 0
opener (call.Stop s) = 0
opener call.Reassign = 0
opener (call.Restore i) = 0

-- the replica of a restore
abbrev backed_up : Call → Option ℕ
backed_up (call.Restore i) = some i
backed_up (call.Open s f) = none
backed_up (call.Take s f) = none
backed_up (call.Prepare s i f) = none
backed_up (call.Copy s a b f) = none
backed_up (call.Trim s i f) = none
backed_up (call.Issue s q) = none
backed_up (call.Send s i f) = none
backed_up (call.Note s i f) = none
backed_up (call.Read s i n f) = none
backed_up (call.Export s i f) = none
backed_up (call.Stop s) = none
backed_up call.Reassign = none

-- the bytes of a restore are what its replica held at the moment named; and so on
abbrev Backs : ℕ → History → Element → Option ℕ → Type 0 → Type 0
Backs N H e none more = more
Backs N H e (some i) more = ((e.moment ≤ H.calls) × (e.input.backup ≡ medium_at N i (H.past e.moment).media)) × more

-- each replica that is read has the session in its entry: a pair for each call that opens one; and a pair for each restore
abbrev pub ReadAll : Shape → State → List Element → List Line → History → Type 0
ReadAll h x [] ls H = Unit {0}
ReadAll h x (e ∷ es) [] H = Unit {0}
ReadAll h x (e ∷ es) (l ∷ ls) H =
    Backs h.places H e (backed_up e.input.call)
    (Read h.replicas e.reader (H.current (opener e.input.call)) l.opens
    (ReadAll h (step h x e.input).state es ls (next_by h x e l H)))

abbrev pub FitEach : List Element → Type 0
FitEach [] = Unit {0}
FitEach (e ∷ es) = Fits e.input × FitEach es

further : (R reader session : ℕ) (o : Option Opens) (more : Type 0) → Read R reader session o more → more
further R reader session none more r = r
further R reader session (some o) more r = r.1

reads : (h : Shape) (x : State) (H : History) (e : Element) (c : Call) (more : Type 0)
    → Read h.replicas e.reader (H.current (opener c)) (opens_by h x e c) more
    → (s : ℕ) (f : Fate) → c ≡ call.Open s f
    → let k = (step h x e.input).state.records.register in
    changed x.records.register k ≡ true → (e.reader < h.replicas) × ((entry_at k.entries e.reader).session ≡ H.current s)
reads h x H e (call.Open t g) more r s f q =
    let st : t ≡ s = cc in
    λ c. let w = rw c at r in (w.0.0, w.0.1 ∙ ap H.current st)
reads h x H e (call.Take t g) more r s f q = let z : ◌≡◌ {A = ℕ} 0 1 = cc in absurd (omega arith)
reads h x H e (call.Prepare t i g) more r s f q = let z : ◌≡◌ {A = ℕ} 0 1 = cc in absurd (omega arith)
reads h x H e (call.Copy t a b g) more r s f q = let z : ◌≡◌ {A = ℕ} 0 1 = cc in absurd (omega arith)
reads h x H e (call.Trim t i g) more r s f q = let z : ◌≡◌ {A = ℕ} 0 1 = cc in absurd (omega arith)
reads h x H e (call.Issue t p) more r s f q = let z : ◌≡◌ {A = ℕ} 0 1 = cc in absurd (omega arith)
reads h x H e (call.Send t i g) more r s f q = let z : ◌≡◌ {A = ℕ} 0 1 = cc in absurd (omega arith)
reads h x H e (call.Note t i g) more r s f q = let z : ◌≡◌ {A = ℕ} 0 1 = cc in absurd (omega arith)
reads h x H e (call.Read t i n g) more r s f q = let z : ◌≡◌ {A = ℕ} 0 1 = cc in absurd (omega arith)
reads h x H e (call.Export t i g) more r s f q = let z : ◌≡◌ {A = ℕ} 0 1 = cc in absurd (omega arith)
reads h x H e (call.Stop t) more r s f q = let z : ◌≡◌ {A = ℕ} 0 1 = cc in absurd (omega arith)
reads h x H e call.Reassign more r s f q = let z : ◌≡◌ {A = ℕ} 0 1 = cc in absurd (omega arith)
reads h x H e (call.Restore i) more r s f q = let z : ◌≡◌ {A = ℕ} 0 1 = cc in absurd (omega arith)

behind : (N : ℕ) (H : History) (e : Element) (o : Option ℕ) (more : Type 0) → Backs N H e o more → more
behind N H e none more b = b
behind N H e (some i) more b = b.1

backs : (N : ℕ) (H : History) (e : Element) (more : Type 0) → Backs N H e (backed_up e.input.call) more → (i : ℕ) → e.input.call ≡ call.Restore i
    → (e.moment ≤ H.calls) × (e.input.backup ≡ medium_at N i (H.past e.moment).media)
backs N H e more b i q = (subst (λ (o : Option ℕ). Backs N H e o more) (ap backed_up q) b).0

pub covers : (h : Shape) (es : List Element) (m : Moment) → FitEach es → ReadAll h m.state es (outline h m.state es).0 m.history
    → CoveredAll h m es
unfolding outline next
covers h [] m fit read = tt
covers h (e ∷ es) m fit read =
    let c = e.input.call in
    let H = m.history in
    let past = behind h.places H e (backed_up c) _ read in (
      record { fits = fit.0; reads = reads h m.state H e c _ past; restores = λ i q changes. backs h.places H e _ read i q },
      subst⁻¹ (λ (k : Moment). CoveredAll h k es) (next_is h m e)
          (covers h es _ fit.1 (further _ _ _ (opens_by h m.state e c) _ past)),
    )
