-- WHAT ITEMS LEAVE. A recovery leaves the state that crate recovery gives, and counts for as many calls: `state_equation`. A list of items leaves what the
-- calls leave that it stands for: `flattened`. Calls alone, each as an item, leave what the list of them leaves, and are asked for no more: `calls_alone`; so
-- the guarantee over lists of calls is a case of the one over lists of items: `never_weaker`.
-- The statements come first, then their proofs.
-- Assumes nothing.
use mathlib.Core.Path.{◌≡◌, refl, sym, ap, ◌∙◌, subst}
use mathlib.Core.List.{List, [], ◌∷◌, ◌++◌, map}
use Prim.Native.Nat.{ℕ, ◌+◌}
use native.Mathlib.Omega.{arith}
use Rattle.cluster.specs.declared.Shape.{Shape}
use Rattle.cluster.specs.State.{State}
use Rattle.cluster.specs.Refusals.{Input}
use Rattle.cluster.specs.Step.{step}
use Rattle.recovery.specs.Recovery.{Recovery, Trail, one as one_more, played, begun, calls_of, recovered}
use Rattle.guarantee.specs.History.{Element, Moment, next, beginning, along}
use Rattle.guarantee.specs.Guarantee.{CoveredAll, Kept, Guarantee}
use Rattle.guarantee.specs.Recoveries.{Item, one, recovery, reading, elements_of, next_item, along_items, flat, CoveredItems, GuaranteeWithRecoveries}
use Rattle.guarantee.proofs.Remembering.{counts}

-- ================ the statements

-- the driver leaves what its calls one after another leave
abbrev pub StateEquation : Type 0
StateEquation = (h : Shape) (m : Moment) (d : Recovery) (a : ℕ)
    → let k = next_item h m (recovery d a) in
    let t = recovered h m.state d in
    (k.state ≡ t.state) × (k.history.calls ≡ m.history.calls + t.count)

abbrev pub Flattened : Type 0
Flattened = (h : Shape) (m : Moment) (is : List Item) → along_items h m is ≡ along h m (flat h m is)

abbrev pub CallsAlone : Type 0
CallsAlone = (h : Shape) (m : Moment) (es : List Element)
    → (along_items h m (map one es) ≡ along h m es) × (CoveredAll h m es → CoveredItems h m (map one es))

abbrev pub NeverWeaker : Type 0
NeverWeaker = GuaranteeWithRecoveries → Guarantee

-- ================ their proofs

pub along_then : (h : Shape) (m : Moment) (es fs : List Element) → along h m (es ++ fs) ≡ along h (along h m es) fs
unfolding along
along_then h m [] fs = refl
along_then h m (e ∷ es) fs = along_then h (next h m e) es fs

-- a call counts as one, whatever it is
next_calls : (h : Shape) (m : Moment) (e : Element) → (next h m e).history.calls ≡ m.history.calls + 1
next_calls h m e = let c = counts h m e in ap (λ (k : Moment). k.history.calls) c.result ∙ omega (arith, c.remembers.calls)

-- the calls ps one after another, as elements and as a driver makes them
module _ (h : Shape) (a : ℕ) where
  states : (ps : List Input) (m : Moment) (t : Trail) → m.state ≡ t.state → (along h m (map (reading a) ps)).state ≡ (played h t ps).state
  unfolding along next played
  states [] m t e = e
  states (p ∷ ps) m t e = states ps (next h m (reading a p)) (one_more h t p) (ap (λ (x : State). (step h x p).state) e)

  numbers : (ps : List Input) (m : Moment) (t : Trail) (n : ℕ) → m.history.calls ≡ n + t.count
      → (along h m (map (reading a) ps)).history.calls ≡ n + (played h t ps).count
  unfolding along played
  numbers [] m t n e = e
  numbers (p ∷ ps) m t n e = numbers ps (next h m (reading a p)) (one_more h t p) n (omega (arith, next_calls h m (reading a p), e))

pub state_equation : StateEquation
unfolding next_item recovered begun
state_equation h m d a = (
  states h a (calls_of h m.state d) m (begun h m.state d) refl,
  numbers h a (calls_of h m.state d) m (begun h m.state d) m.history.calls (omega arith),
)

pub flattened : Flattened
unfolding along_items flat along next_item
flattened h m [] = refl
flattened h m (i ∷ is) = flattened h (next_item h m i) is ∙ sym (along_then h m (elements_of h m i) (flat h (next_item h m i) is))

pub calls_alone : CallsAlone
unfolding along_items along next_item
calls_alone h m [] = (refl, λ a. tt)
calls_alone h m (e ∷ es) = let w = calls_alone h (next h m e) es in (w.0, λ a. (a.0, w.1 a.1))

pub never_weaker : NeverWeaker
never_weaker G h range es a =
    let w = calls_alone h (beginning h) es in
    subst (λ (m : Moment). Kept m.history) w.0 (G h range (map one es) (w.1 a))
