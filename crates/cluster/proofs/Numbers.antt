-- What the number of a reply says of the rows of a list: a list that does not have it does not give it, and where it is given the rows before it pass
-- and its own condition holds.
-- Assumes nothing.
use mathlib.Core.Path.{◌≡◌, refl, sym, ap, ◌∙◌}
use mathlib.Core.Bool.{Bool, true, false, cond, false≢true}
use mathlib.Core.Logic.{◌↔◌}
use mathlib.Core.List.{List, [], ◌∷◌, ◌++◌}
use Prim.Native.Nat.{ℕ}
use native.Mathlib.Omega.{arith}
use lib.Dec.{eqb}
use borrow.Author.Tests.{eq-eqb}
use Rattle.segment.specs.declared.header.Stamp.{Stamp}
use Rattle.segment.specs.Pair.{Files}
use Rattle.cluster.specs.declared.Call.{Call}
use Rattle.cluster.specs.State.{State}
use Rattle.cluster.specs.Replies.{ok, no}
use Rattle.cluster.specs.Refusals.{Input, Row, Verdict, pass, declined, first_of, and_then}
use Rattle.cluster.specs.Effects.{Result}
use Rattle.cluster.specs.Step.{unless, rest}
use Rattle.cluster.proofs.Rows.{first_of_append}

-- a call with its arguments, for laws about one kind of call
abbrev pub making : Call → List ℕ → List ℕ → List ℕ → Stamp → Files → List ℕ → Input
making c content locks given stamp files backup = record { call = c; content = content; locks = locks; given = given; stamp = stamp; files = files; backup = backup }

-- a row has this number
unfoldable pub mentions : ℕ → List Row → Bool
mentions n [] = false
mentions n (w ∷ ws) = cond (eqb w.number n) true (mentions n ws)

-- the rows before the first with this number, and behind it
unfoldable pub until : ℕ → List Row → List Row
until n [] = []
until n (w ∷ ws) = cond (eqb w.number n) [] (w ∷ until n ws)

unfoldable pub beyond : ℕ → List Row → List Row
beyond n [] = []
beyond n (w ∷ ws) = cond (eqb w.number n) ws (beyond n ws)

declined_mentions : (ws : List Row) (n : ℕ) (values : List ℕ) → first_of ws ≡ declined n values → mentions n ws ≡ true
unfolding first_of mentions
declined_mentions [] n values e = let z : ◌≡◌ {A = ℕ} 0 1 = cc in absurd (omega arith)
declined_mentions (w ∷ ws) n values e = go w.holds e (eqb w.number n) refl (declined_mentions ws n values)
  where
    go :
        (c : Bool)
        → cond c (declined w.number w.values) (first_of ws) ≡ declined n values
        → (b : Bool)
        → eqb w.number n ≡ b
        → (first_of ws ≡ declined n values → mentions n ws ≡ true)
        → cond b true (mentions n ws) ≡ true
    go c e true eb more = refl
    go true e false eb more = let same : w.number ≡ n = cc in absurd (false≢true (sym eb ∙ eq-eqb w.number n same))
    go false e false eb more = more e

module _ (ws : List Row) (x : State) (e : Result) (n : ℕ) (values : List ℕ) (unmentioned : mentions n ws ≡ false) where
  not_given : (k : ℕ) (vs : List ℕ) → first_of ws ≡ declined k vs → no k vs ≡ no n values → ⊥
  not_given k vs d q =
      let same : k ≡ n = cc in
      false≢true (sym unmentioned ∙ declined_mentions ws n vs (d ∙ ap (λ (i : ℕ). declined i vs) same))

  -- a number that no row of a list has is not given by it
  pub other_number : (rest ws x e).reply ≡ no n values → e.reply ≡ no n values
  unfolding unless
  other_number q = go (first_of ws) refl q
    where
      go : (d : Verdict) → first_of ws ≡ d → (unless d x e).reply ≡ no n values → e.reply ≡ no n values
      go pass f q = q
      go (declined k vs) f q = absurd (not_given k vs f q)

  -- where a list that begins with ws gives it, ws passes
  passes_before : (us : List Row) → (rest (ws ++ us) x e).reply ≡ no n values → first_of ws ≡ pass
  unfolding unless and_then
  passes_before us q = go (first_of ws) refl (rw (first_of_append ws us) at q)
    where
      go : (d : Verdict) → first_of ws ≡ d → (unless (and_then d us) x e).reply ≡ no n values → d ≡ pass
      go pass f q = refl
      go (declined k vs) f q = absurd (not_given k vs f q)

behind : (ws us : List Row) (x : State) (e : Result) → first_of ws ≡ pass → rest (ws ++ us) x e ≡ rest us x e
unfolding and_then
behind ws us x e q = rw (first_of_append ws us, q)

-- a row that comes first, with a number that none behind it has, and that the effect e does not reply
module _ (w : Row) (us : List Row) (x : State) (e : Result) (unmentioned : mentions w.number us ≡ false) where
  is_given :
      (values : List ℕ)
      → (e.reply ≡ no w.number values → ⊥)
      → (rest (w ∷ us) x e).reply ≡ no w.number values
      → (w.holds ≡ true) × (values ≡ w.values)
  unfolding unless first_of
  is_given values never r = go w.holds r
    where
      go : (b : Bool) → (unless (cond b (declined w.number w.values) (first_of us)) x e).reply ≡ no w.number values → (b ≡ true) × (values ≡ w.values)
      go true r = (refl, cc)
      go false r = absurd (never (other_number us x e w.number values unmentioned r))

-- its number and values are given where its condition holds
gives : (w : Row) (us : List Row) (x : State) (e : Result) → w.holds ≡ true → (rest (w ∷ us) x e).reply ≡ no w.number w.values
unfolding unless first_of
gives w us x e q = rw q

-- A row with a number that no other row has, and that the effect e does not reply: it is given exactly if the rows before it pass and it holds, and then
-- with its values.
pub given_exactly :
    (ws : List Row) (w : Row) (us : List Row) (x : State) (e : Result) (values : List ℕ)
    → mentions w.number ws ≡ false
    → mentions w.number us ≡ false
    → (e.reply ≡ no w.number values → ⊥)
    → ((rest (ws ++ (w ∷ us)) x e).reply ≡ no w.number values) ↔ ((first_of ws ≡ pass) × (w.holds ≡ true) × (values ≡ w.values))
given_exactly ws w us x e values before after never =
    let at : first_of ws ≡ pass → (rest (ws ++ (w ∷ us)) x e).reply ≡ (rest (w ∷ us) x e).reply =
    λ k. ap (λ (z : Result). z.reply) (behind ws (w ∷ us) x e k) in (
      λ r.
          let k = passes_before ws x e w.number values before (w ∷ us) r in
          let g = is_given w us x e after values never (sym (at k) ∙ r) in
          (k, g.0, g.1),
      λ (k, b, v). at k ∙ gives w us x e b ∙ ap (no w.number) (sym v),
    )

-- a call that is answered ok was not declined
pub ok_passes : (ws : List Row) (x : State) (e : Result) (values : List ℕ) → (rest ws x e).reply ≡ ok values → first_of ws ≡ pass
unfolding unless
ok_passes ws x e values q = go (first_of ws) q
  where
    go : (d : Verdict) → (unless d x e).reply ≡ ok values → d ≡ pass
    go pass q = refl
    go (declined n vs) q = let z : ◌≡◌ {A = ℕ} 0 1 = cc in absurd (omega arith)
