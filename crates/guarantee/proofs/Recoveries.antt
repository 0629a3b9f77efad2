-- THE THEOREM OF CONDITION 3 OVER LISTS WITH RECOVERIES. The statement is specs/Recoveries.antt. A list of items that are covered stands for a list of calls
-- that are covered (`covered_flat`) and leaves what these leave (Items.antt `flattened`). So all that is shown of every list of calls holds of every
-- list of items (`over_items`), and the guarantee is one case of that (`with_recoveries`).
-- The statements come first, then their proofs.
-- Assumes nothing.
use mathlib.Core.Path.{◌≡◌, refl, sym, ap, ◌∙◌, subst, subst⁻¹}
use mathlib.Core.Logic.{◌⊎◌, inl, inr}
use mathlib.Core.Bool.{true, false}
use mathlib.Core.List.{List, [], ◌∷◌, ◌++◌, map}
use Prim.Native.Nat.{ℕ, ◌<◌}
use native.Mathlib.Omega.{arith}
use Rattle.fate.specs.declared.Fate.{Fate}
use Rattle.quorum.specs.Vote.{quorum}
use Rattle.protocol.specs.State as protocol
use Rattle.protocol.proofs.Invariant.{Inv}
use Rattle.protocol.proofs.Fresh.{fresh_inv}
use Rattle.protocol.proofs.Keeps.{steps_inv}
use Rattle.cluster.specs.declared.Shape.{Shape}
use Rattle.cluster.specs.declared.Call.TheVariants as call
use Rattle.cluster.specs.State.{entry_at}
use Rattle.cluster.specs.Refusals.{Input}
use Rattle.recovery.specs.Recovery.{Recovery, bare, calls_of}
use Rattle.guarantee.specs.Registers.{changed}
use Rattle.guarantee.specs.History.{Element, Session, Moment, next, beginning, along}
use Rattle.guarantee.specs.Guarantee.{InRange, Covered, CoveredAll, Kept}
use Rattle.guarantee.specs.Recoveries.{Item, one, recovery, reading, elements_of, next_item, along_items, flat, ReadBy, CoveredItem, CoveredItems, GuaranteeWithRecoveries}
use Rattle.guarantee.proofs.Facts.{quorate}
use Rattle.guarantee.proofs.Along.{all_calls, FromFresh, from_fresh}
use Rattle.guarantee.proofs.Once.{new}
use Rattle.guarantee.proofs.Guarantee.{guarantee}
use Rattle.guarantee.proofs.Driven.{AllQuiet, Ending, open_fits, calls_fit}
use Rattle.guarantee.proofs.Items.{along_then, flattened}
use Rattle.guarantee.proofs.Between.{quiet_opened, open_current, changed_opened}

-- ================ the statements

-- what holds of the moment after every list of calls holds of the moment after every list of items
abbrev pub OverItems : Type 1
OverItems = (h : Shape) → InRange h → (P : Moment → Type 0)
    → ((es : List Element) → CoveredAll h (beginning h) es → P (along h (beginning h) es))
    → (is : List Item) → CoveredItems h (beginning h) is → P (along_items h (beginning h) is)

-- ================ the calls of a recovery are covered

pub covered_then : (h : Shape) (m : Moment) (es fs : List Element) → CoveredAll h m es → CoveredAll h (along h m es) fs → CoveredAll h m (es ++ fs)
unfolding along
covered_then h m [] fs a b = b
covered_then h m (e ∷ es) fs a b = (a.0, covered_then h (next h m e) es fs a.1 b)

pub quiet_covered : (h : Shape) (ps : List Input) → AllQuiet ps → (m : Moment) (a : ℕ) → CoveredAll h m (map (reading a) ps)
quiet_covered h [] q m a = tt
quiet_covered h (p ∷ ps) q m a = (
  record { fits = q.0.fits; reads = λ s f e c. absurd (q.0.no_open s f e); restores = λ i e c. absurd (q.0.no_restore i e) },
  quiet_covered h ps q.1 (next h m (reading a p)) a,
)

-- its calls before the open, and the open
pub ending_elements : (a : ℕ) (ps : List Input) (p : Input) → map (reading a) (ps ++ (p ∷ [])) ≡ map (reading a) ps ++ (reading a p ∷ [])
ending_elements a [] p = refl
ending_elements a (q ∷ ps) p = ap (λ (l : List Element). reading a q ∷ l) (ending_elements a ps p)

module _ (h : Shape) (range : InRange h) where
  I : Inv (protocol.fresh h.replicas (quorum h.replicas))
  I = fresh_inv h.replicas (quorum h.replicas) (quorate h range).0 (quorate h range).1

  pub go_on : (m : Moment) → FromFresh h m → (es : List Element) → CoveredAll h m es → FromFresh h (along h m es)
  go_on m w es a =
      let n = all_calls h range es m _ w.state w.steps I w.tied a in
      record { state = n.0; steps = n.1; inv = steps_inv n.1 I; tied = n.2 }

  pub at_first : FromFresh h (beginning h)
  unfolding along
  at_first = from_fresh h range [] tt

  module _ (m : Moment) (w : FromFresh h m) (d : Recovery) (a : ℕ) where
    -- If the open changes the register, its session is opened by it, and was not before: so the replica that is read is as it should be.
    open_covered : (ps : List Input) (f : Fate) → AllQuiet ps
        → let b = along h m (map (reading a) ps) in
        let o = reading a (bare (call.Open d.server f) []) in
        ReadBy h m (next h b o) d.server a → Covered h b o
    unfolding next
    open_covered ps f q r =
        record {
          fits = open_fits d.server f;
          reads = λ s g e c. reads s g e c;
          restores = λ i e c. let z : ◌≡◌ {A = ℕ} 0 1 = cc in absurd (omega arith);
        }
      where
        reads : (s : ℕ) (g : Fate) → call.Open d.server f ≡ call.Open s g
            → let b = along h m (map (reading a) ps) in
            let k = (next h b (reading a (bare (call.Open d.server f) []))).state.records.register in
            changed b.state.records.register k ≡ true → (a < h.replicas) × ((entry_at k.entries a).session ≡ b.history.current s)
        reads s g e c =
            let b = along h m (map (reading a) ps) in
            let k = next h b (reading a (bare (call.Open d.server f) [])) in
            let v = go_on m w (map (reading a) ps) (quiet_covered h ps q m a) in
            let z = b.history.current d.server in
            let once = new h b.state b.history v.state v.tied.sim v.inv (bare (call.Open d.server f) []) in
            let unopened = ap (λ (t : Session). t.opened) (once.opens d.server f refl c) in
            let before : (m.history.sessions z).opened ≡ false = sym (quiet_opened h ps q m a z) ∙ unopened in
            let its : k.history.current d.server ≡ z = open_current h b d.server f a in
            let by : d.server ≡ s = cc in
            let read = r
            (ap (λ (t : ℕ). (m.history.sessions t).opened) its ∙ before)
            (ap (λ (t : ℕ). (k.history.sessions t).opened) its ∙ changed_opened h b d.server f a c) in
            (read.0, read.1 ∙ its ∙ ap b.history.current by)

    pub recovery_covered : CoveredItem h m (recovery d a) → CoveredAll h m (elements_of h m (recovery d a))
    unfolding next_item along
    recovery_covered r = go (calls_fit h m.state d)
      where
        go : AllQuiet (calls_of h m.state d) ⊎ Ending d (calls_of h m.state d) → CoveredAll h m (elements_of h m (recovery d a))
        go (inl q) = quiet_covered h (calls_of h m.state d) q m a
        go (inr E) =
            let ps = E.before in
            let p = bare (call.Open d.server E.fate) [] in
            let o = reading a p in
            let es : elements_of h m (recovery d a) ≡ map (reading a) ps ++ (o ∷ []) = ap (map (reading a)) E.all ∙ ending_elements a ps p in
            let k : next_item h m (recovery d a) ≡ next h (along h m (map (reading a) ps)) o = ap (along h m) es ∙ along_then h m (map (reading a) ps) (o ∷ []) in
            let c = open_covered ps E.fate E.quiet (subst (λ (n : Moment). ReadBy h m n d.server a) k r) in
            subst⁻¹ (CoveredAll h m) es (covered_then h m (map (reading a) ps) (o ∷ []) (quiet_covered h ps E.quiet m a) (c, tt))

  -- ================ a list of items

  pub item_covered : (m : Moment) → FromFresh h m → (i : Item) → CoveredItem h m i → CoveredAll h m (elements_of h m i)
  item_covered m w (one e) a = (a, tt)
  item_covered m w (recovery d r) a = recovery_covered m w d r a

  covered_flat : (m : Moment) → FromFresh h m → (is : List Item) → CoveredItems h m is → CoveredAll h m (flat h m is)
  unfolding flat next_item
  covered_flat m w [] a = tt
  covered_flat m w (i ∷ is) a =
      let c = item_covered m w i a.0 in
      covered_then h m (elements_of h m i) (flat h (next_item h m i) is) c (covered_flat (next_item h m i) (go_on m w (elements_of h m i) c) is a.1)

pub over_items : OverItems
over_items h range P each is a =
    subst⁻¹ P (flattened h (beginning h) is) (each (flat h (beginning h) is) (covered_flat h range (beginning h) (at_first h range) is a))

-- ================ the theorem

pub with_recoveries : GuaranteeWithRecoveries
with_recoveries h range is a = over_items h range (λ m. Kept m.history) (guarantee h range) is a
