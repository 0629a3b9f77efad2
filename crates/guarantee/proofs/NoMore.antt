-- OF A RECOVERY NO MORE IS ASKED THAN OF ITS CALLS: where the calls that a list of items stands for are covered, the items are: `no_more`. (The converse, after
-- every list of items, is what Recoveries.antt shows first.)
-- The statement comes first, then its proof.
-- Assumes nothing.
use mathlib.Core.Path.{◌≡◌, refl, sym, ap, ◌∙◌, subst, subst⁻¹}
use mathlib.Core.Logic.{◌⊎◌, inl, inr}
use mathlib.Core.Bool.{true, true≢false}
use mathlib.Core.List.{List, [], ◌∷◌, ◌++◌, map}
use Prim.Native.Nat.{ℕ, ◌<◌}
use Rattle.fate.specs.declared.Fate.{Fate}
use Rattle.cluster.specs.declared.Shape.{Shape}
use Rattle.cluster.specs.declared.Call.TheVariants as call
use Rattle.cluster.specs.State.{entry_at}
use Rattle.recovery.specs.Recovery.{Recovery, bare, calls_of}
use Rattle.guarantee.specs.Registers.{changed}
use Rattle.guarantee.specs.History.{Element, Moment, next, along}
use Rattle.guarantee.specs.Guarantee.{CoveredAll}
use Rattle.guarantee.specs.Recoveries.{Item, one, recovery, reading, elements_of, next_item, flat, ReadBy, CoveredItem, CoveredItems}
use Rattle.guarantee.proofs.Driven.{AllQuiet, Ending, calls_fit}
use Rattle.guarantee.proofs.Items.{along_then}
use Rattle.guarantee.proofs.Between.{quiet_opened, open_current, opened_changed}
use Rattle.guarantee.proofs.Recoveries.{ending_elements}

-- ================ the statement

abbrev pub NoMore : Type 0
NoMore = (h : Shape) (m : Moment) (is : List Item) → CoveredAll h m (flat h m is) → CoveredItems h m is

-- ================ a recovery

split : (h : Shape) (m : Moment) (es fs : List Element) → CoveredAll h m (es ++ fs) → CoveredAll h m es × CoveredAll h (along h m es) fs
unfolding along
split h m [] fs a = (tt, a)
split h m (e ∷ es) fs a = let w = split h (next h m e) es fs a.1 in ((a.0, w.0), w.1)

module _ (h : Shape) (m : Moment) (d : Recovery) where
  -- one that makes no open: any replica will do
  pub unread : (a : ℕ) → AllQuiet (calls_of h m.state d) → CoveredItem h m (recovery d a)
  unfolding next_item
  unread a q n o =
      let z = (along h m (map (reading a) (calls_of h m.state d))).history.current d.server in
      absurd (true≢false (sym o ∙ quiet_opened h (calls_of h m.state d) q m a z ∙ n))

  -- an open by the recovery's server, made in moment b, may read replica a
  abbrev pub MayRead : Fate → ℕ → Moment → Type 0
  MayRead f a b =
      let k = (next h b (reading a (bare (call.Open d.server f) []))).state.records.register in
      changed b.state.records.register k ≡ true → (a < h.replicas) × ((entry_at k.entries a).session ≡ b.history.current d.server)

  -- so may the recovery that ends with it
  pub read_last : (E : Ending d (calls_of h m.state d)) (a : ℕ) → MayRead E.fate a (along h m (map (reading a) E.before)) → CoveredItem h m (recovery d a)
  unfolding next_item along
  read_last E a r =
      let ps = E.before in
      let s = d.server in
      let b = along h m (map (reading a) ps) in
      let o = reading a (bare (call.Open s E.fate) []) in
      let k : next_item h m (recovery d a) ≡ next h b o =
      ap (along h m) (ap (map (reading a)) E.all ∙ ending_elements a ps (bare (call.Open s E.fate) [])) ∙ along_then h m (map (reading a) ps) (o ∷ []) in
      let its : (next h b o).history.current s ≡ b.history.current s = open_current h b s E.fate a in
      let by : ReadBy h m (next h b o) s a =
      λ n q.
      let z = (next h b o).history.current s in
      let u = r (opened_changed h b s E.fate a z (quiet_opened h ps E.quiet m a z ∙ n) q) in
      (u.0, u.1 ∙ sym its) in
      subst⁻¹ (λ (n : Moment). ReadBy h m n s a) k by

  of_its_calls : (a : ℕ) → CoveredAll h m (elements_of h m (recovery d a)) → CoveredItem h m (recovery d a)
  of_its_calls a c = go (calls_fit h m.state d)
    where
      go : AllQuiet (calls_of h m.state d) ⊎ Ending d (calls_of h m.state d) → CoveredItem h m (recovery d a)
      go (inl q) = unread a q
      go (inr E) =
          let ps = E.before in
          let p = bare (call.Open d.server E.fate) [] in
          let es : elements_of h m (recovery d a) ≡ map (reading a) ps ++ (reading a p ∷ []) = ap (map (reading a)) E.all ∙ ending_elements a ps p in
          let o = (split h m (map (reading a) ps) (reading a p ∷ []) (subst (CoveredAll h m) es c)).1 in
          read_last E a (λ changes. o.0.reads d.server E.fate refl changes)

-- ================ a list of items

of_item : (h : Shape) (m : Moment) (i : Item) → CoveredAll h m (elements_of h m i) → CoveredItem h m i
of_item h m (one e) a = a.0
of_item h m (recovery d r) a = of_its_calls h m d r a

pub no_more : NoMore
unfolding flat next_item
no_more h m [] a = tt
no_more h m (i ∷ is) a =
    let w = split h m (elements_of h m i) (flat h (next_item h m i) is) a in
    (of_item h m i w.0, no_more h (next_item h m i) is w.1)
