-- `byte_search::find`: what stands before the first b is what `position` counts.
use Rattle.std.proofs.Common.{rules, tests, ◌≡◌, refl, ◌+◌, ◌-◌, ◌≤◌, ℕ, List, Bool, true, false, cond, length, eqb, ltb, Option, Some, None, ap, sym, ◌∙◌, take, drop, length-take, length-drop, arith}
use Rattle.std.proofs.lemmas.Iterator.{YieldsList-from_slice}
use Rattle.std.proofs.lemmas.Iterator.Search.{position_from_yields_List}
use Rattle.std.proofs.lemmas.List.Recursion.{is_position_or_len}
use Rattle.std.proofs.lemmas.List.{drop-take}
use Rattle.std.proofs.lemmas.List.Sums.{prefix_len-le-length}
use Rattle.std.specs.Option.{MatchOption}
use Rattle.std.specs.List.{position_or_len}
use Rattle.byte_search.specs.Bytes.{index_of, index_after, slice}
use Rattle.byte_search.proofs.find.Goals as goal

one_more : (h : Bool) (n : ℕ) → index_after h n ≡ cond h 0 (1 + n)
unfolding index_after
one_more true n = refl
one_more false n = omega arith

index_is : (b : ℕ) (s : List ℕ) → index_of b s ≡ position_or_len (λ x. eqb x b) s
unfolding index_of
index_is b = is_position_or_len (index_of b) (λ x. eqb x b) refl (λ x s. one_more (eqb x b) (index_of b s))

-- the elements from `from` on, up to `to`
part : (s : List ℕ) (from to : ℕ) → from ≤ to → slice from to s ≡ take (to - from) (drop from s)
unfolding slice
part s from to h =
    let e : from + (to - from) ≡ to = omega arith in
    ap (λ (n : ℕ). drop from (take n s)) (sym e) ∙ drop-take from (to - from) s

part_length : (s : List ℕ) (from to : ℕ) → from ≤ to → to ≤ length s → length (take (to - from) (drop from s)) ≡ to - from
part_length s from to h l = simp (length-take, length-drop) (omega arith)

-- what `map_or` makes of a place that was found, or of none
abbrev Of : Option ℕ → ℕ → ℕ → ℕ → Type 0
Of o from to r = MatchOption o (r ≡ to) (λ i. r ≡ from + i)

found : (o : Option ℕ) (p n from to r : ℕ) → o ≡ cond (ltb p n) (Some p) None → p ≤ n → from + n ≡ to → Of o from to r → (r ≡ from + p) × (from ≤ r) × (r ≤ to)
found None p n from to r e l q h = grind (arith, tests)
found (Some i) p n from to r e l q h = grind (arith, tests)

pub returns : goal.returns
returns c =
    let p = position_from_yields_List (λ x. eqb x c.args.b) _ _ c.position.result c.position.ensures.ran (YieldsList-from_slice _ c.iter.ensures.rest) (λ x b q k. search (rules, tests)) in
    let a = c.args in
    let t = take (a.to - a.from) (drop a.from a.s.now) in
    let h : Of c.position.result a.from a.to c.map_or.result = search (rules, tests) in
    let k : length t ≡ a.to - a.from = part_length a.s.now a.from a.to c.requires.0 c.requires.1 in
    let f = found c.position.result _ _ a.from a.to c.map_or.result p (prefix_len-le-length _ t) (omega (arith, k, c.requires.0)) h in
    (f.0 ∙ ap (λ (n : ℕ). a.from + n) (sym (ap (index_of a.b) (part a.s.now a.from a.to c.requires.0) ∙ index_is a.b t)), (f.1, f.2))
