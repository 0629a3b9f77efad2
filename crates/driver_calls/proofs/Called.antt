-- A call that was made with the next fate, and the bytes beside it, and that was counted is one call more of the recovery.
-- Assumes nothing.
use mathlib.Core.Path.{◌≡◌, sym, ap, ap₂, ◌∙◌}
use mathlib.Core.Bool.{cond}
use mathlib.Core.List.{List}
use Prim.Native.Nat.{ℕ, ◌+◌, ◌*◌}
use lib.Dec.{ltb}
use lib.ListN.{length, get_or, length-map}
use Rattle.octets.specs.Octets.{part}
use Rattle.fate.specs.declared.Fate.{Fate}
use Rattle.fate.specs.declared.Fate.TheVariants.{Answered}
use Rattle.storage.specs.Sizes.{place_size}
use Rattle.cluster.specs.declared.Shape.{Shape}
use Rattle.cluster.specs.declared.Outcome.{Outcome}
use Rattle.cluster.specs.Refusals.{Input}
use Rattle.cluster.specs.Effects.{Result, no_bytes}
use Rattle.cluster.specs.Step.{step}
use Rattle.checks.specs.Results.{state_of, result_of}
use Rattle.recovery.specs.declared.Recovered.{Recovered}
use Rattle.recovery.specs.Recovery.{one, fate_at, given_at}
use Rattle.recovery.specs.Asked.{fate_of, fates_of}
use Rattle.recovery.specs.Asked.{asked_of, trail_of, counted}

-- from media m and lock tables t, which the call left as m' and t'
module _ (h : Shape) (g : Recovered) (o : Outcome) (r : Recovered) (m t m' t' : List ℕ) (q : r ≡ counted o g.calls) where
  called : (p : Input) → result_of o m' t' ≡ step h (state_of g.records m t) p → trail_of r m' t' ≡ one h (trail_of g m t) p
  called p e =
      ap (λ (x : Recovered). trail_of x m' t') q
      ∙ ap (λ (z : Result). record { state = z.state; reply = z.reply; count = g.calls + 1 }) e

  module _ (s : ℕ) (listed fs given : List ℕ) (f : Fate) (ef : f ≡ get_or (fates_of fs) g.calls Answered) where
    pub with_fate :
        (c : Fate → Input)
        → result_of o m' t' ≡ step h (state_of g.records m t) (c f)
        → trail_of r m' t' ≡ one h (trail_of g m t) (c (fate_at (asked_of s listed fs given) g.calls))
    unfolding fate_at
    with_fate c e = called (c (get_or (fates_of fs) g.calls Answered)) (e ∙ ap (λ (x : Fate). step h (state_of g.records m t) (c x)) ef)

    pub with_both :
        (c : Fate → List ℕ → Input) (b : List ℕ)
        → b ≡ cond (ltb g.calls (length fs)) (part (g.calls * place_size) place_size given) no_bytes
        → result_of o m' t' ≡ step h (state_of g.records m t) (c f b)
        → trail_of r m' t' ≡ one h (trail_of g m t) (c (fate_at (asked_of s listed fs given) g.calls) (given_at (asked_of s listed fs given) g.calls))
    unfolding fate_at given_at
    with_both c b eb e =
        let z : b ≡ given_at (asked_of s listed fs given) g.calls =
        eb ∙ ap (λ (n : ℕ). cond (ltb g.calls n) (part (g.calls * place_size) place_size given) no_bytes) (sym (length-map fs fate_of)) in
        called _ (e ∙ ap₂ (λ (x : Fate) (y : List ℕ). step h (state_of g.records m t) (c x y)) ef z)
