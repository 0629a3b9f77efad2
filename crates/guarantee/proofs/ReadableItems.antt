-- EVERY LIST OF CALLS WHOSE ARGUMENTS FIT AND OF RECOVERIES IS A LIST OF THE GUARANTEE WITH RECOVERIES, if its restores have bytes that stood. Of a recovery
-- nothing has to fit: whichever its server, replicas, fates and given bytes are, there is a replica to be read: `readable_items`. The bytes of a restore may
-- be those of a moment between a recovery's calls. (Readable.antt says so of lists of calls.)
-- The statement comes first, then its proof.
-- Assumes nothing.
use mathlib.Core.Path.{◌≡◌, refl, ap, subst, subst⁻¹}
use mathlib.Core.Logic.{◌⊎◌, inl, inr}
use mathlib.Core.List.Memᴰ
use mathlib.Core.List.{List, [], ◌∷◌, map}
use Prim.Native.Nat.{ℕ}
use native.Mathlib.Omega.{arith}
use Rattle.cluster.specs.declared.Shape.{Shape}
use Rattle.cluster.specs.declared.Call.TheVariants as call
use Rattle.cluster.specs.State.{State, fresh}
use Rattle.cluster.specs.Refusals.{Input}
use Rattle.cluster.specs.Step.{step}
use Rattle.recovery.specs.Recovery.{Recovery, bare, calls_of, recovered}
use Rattle.guarantee.specs.History.{Element, Moment, next, beginning, along}
use Rattle.guarantee.specs.Guarantee.{InRange, Fits, Covered}
use Rattle.guarantee.specs.Recoveries.{Item, one, recovery, reading, elements_of, next_item, CoveredItem, CoveredItems}
use Rattle.guarantee.proofs.Along.{FromFresh}
use Rattle.guarantee.proofs.Readable.{Stood, Seen, named, seen_next, seen_first}
use Rattle.guarantee.proofs.Driven.{AllQuiet, Ending, calls_fit}
use Rattle.guarantee.proofs.Items.{state_equation}
use Rattle.guarantee.proofs.Between.{quiet_reader}
use Rattle.guarantee.proofs.Recoveries.{quiet_covered, go_on, at_first, item_covered}
use Rattle.guarantee.proofs.NoMore.{unread, MayRead, read_last}

-- ================ the statement

-- an item without the replica read and the moment named: a call or a recovery
abbrev pub asked : Item → Input ⊎ Recovery
asked (one e) = inl e.input
asked (recovery d a) = inr d

abbrev pub FitCalls : List (Input ⊎ Recovery) → Type 0
FitCalls [] = Unit {0}
FitCalls (inl p ∷ ts) = Fits p × FitCalls ts
FitCalls (inr d ∷ ts) = FitCalls ts

-- the media seen, and those of each moment that these calls leave
unfoldable pub seen_after : Shape → List (List ℕ) → State → List Input → List (List ℕ)
seen_after h seen x [] = seen
seen_after h seen x (p ∷ ps) = let y = (step h x p).state in seen_after h (y.media ∷ seen) y ps

-- the bytes of the restores stood at one of the moments so far, those between a recovery's calls included
abbrev pub StoodItems : Shape → List (List ℕ) → State → List (Input ⊎ Recovery) → Type 0
StoodItems h seen x [] = Unit {0}
StoodItems h seen x (inl p ∷ ts) = let y = (step h x p).state in Stood h seen x p × StoodItems h (y.media ∷ seen) y ts
StoodItems h seen x (inr d ∷ ts) = StoodItems h (seen_after h seen x (calls_of h x d)) (recovered h x d).state ts

abbrev pub ReadableItems : Type 0
ReadableItems = (h : Shape) → InRange h → (ts : List (Input ⊎ Recovery)) → FitCalls ts → StoodItems h ((fresh h).media ∷ []) (fresh h) ts
    → (is : List Item) × (map asked is ≡ ts) × CoveredItems h (beginning h) is

-- ================ a recovery

module _ (h : Shape) (range : InRange h) (m : Moment) (w : FromFresh h m) (d : Recovery) where
  -- an open has one: whichever is read, the moment before the open is the same
  read : Ending d (calls_of h m.state d) → (a : ℕ) × CoveredItem h m (recovery d a)
  unfolding next
  read E =
      let ps = E.before in
      let b = along h m (map (reading 0) ps) in
      let v = go_on h range m w (map (reading 0) ps) (quiet_covered h ps E.quiet m 0) in
      let r = named h range b.state b.history v.state v.tied.sim [] (λ media i. absurd (Memᴰ.not-nil i))
      (bare (call.Open d.server E.fate) []) (λ i e c. let z : ◌≡◌ {A = ℕ} 0 1 = cc in absurd (omega arith)) in
      let a = r.reader in
      (a, read_last h m d E a (subst (MayRead h m d E.fate a) (quiet_reader h ps E.quiet m 0 a) (r.reads d.server E.fate refl)))

  a_reader : (a : ℕ) × CoveredItem h m (recovery d a)
  a_reader = go (calls_fit h m.state d)
    where
      go : AllQuiet (calls_of h m.state d) ⊎ Ending d (calls_of h m.state d) → (a : ℕ) × CoveredItem h m (recovery d a)
      go (inl q) = (0, unread h m d 0 q)
      go (inr E) = read E

-- the moments between its calls are seen
seen_along : (h : Shape) (a : ℕ) (ps : List Input) (m : Moment) (seen : List (List ℕ)) → Seen m.history seen
    → Seen (along h m (map (reading a) ps)).history (seen_after h seen m.state ps)
unfolding along next seen_after
seen_along h a [] m seen known = known
seen_along h a (p ∷ ps) m seen known = seen_along h a ps (next h m (reading a p)) _ (seen_next h m (reading a p) seen known)

-- ================ a list

module _ (h : Shape) (range : InRange h) where
  from : (ts : List (Input ⊎ Recovery)) → FitCalls ts → (m : Moment) → FromFresh h m → (seen : List (List ℕ)) → Seen m.history seen
      → StoodItems h seen m.state ts → (is : List Item) × (map asked is ≡ ts) × CoveredItems h m is
  unfolding next_item along next
  from [] fit m w seen known stood = ([], refl, tt)
  from (inl p ∷ ts) fit m w seen known stood =
      let r = named h range m.state m.history w.state w.tied.sim seen known p stood.0 in
      let e : Element = record { input = p; reader = r.reader; moment = r.moment } in
      let c : Covered h m e = record { fits = fit.0; reads = r.reads; restores = r.restores } in
      let n = from ts fit.1 (next h m e) (go_on h range m w (e ∷ []) (c, tt)) _ (seen_next h m e seen known) stood.1 in
      (one e ∷ n.0, ap (λ (us : List (Input ⊎ Recovery)). inl p ∷ us) n.1, (c, n.2))
  from (inr d ∷ ts) fit m w seen known stood =
      let r = a_reader h range m w d in
      let i = recovery d r.0 in
      let ps = calls_of h m.state d in
      let still = subst⁻¹ (λ (y : State). StoodItems h (seen_after h seen m.state ps) y ts) (state_equation h m d r.0).0 stood in
      let n = from ts fit (next_item h m i) (go_on h range m w (elements_of h m i) (item_covered h range m w i r.1)) _
      (seen_along h r.0 ps m seen known) still in
      (i ∷ n.0, ap (λ (us : List (Input ⊎ Recovery)). inr d ∷ us) n.1, (r.1, n.2))

pub readable_items : ReadableItems
unfolding beginning
readable_items h range ts fit stood = from h range ts fit (beginning h) (at_first h range) _ (seen_first h) stood
