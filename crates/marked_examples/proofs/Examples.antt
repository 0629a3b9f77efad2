-- The marked examples hold: one test, computed over the whole table, and the law that turns it into what each row says.
-- Assumes nothing.
use mathlib.Core.Path.{◌≡◌, refl, ap, ap₂}
use mathlib.Core.Bool.{Bool, true, false, ◌&&◌, false≢true}
use mathlib.Core.Logic.{⊎_elim}
use mathlib.Core.List.Memᴰ
use mathlib.Core.List.{List, [], ◌∷◌, Memᴰ}
use Prim.Native.Nat.{ℕ}
use lib.Dec.{eqb}
use borrow.Author.Tests.{eqb-true}
use Rattle.base.specs.Below.{count, highest}
use Rattle.base.proofs.Tests.{both}
use Rattle.std.specs.Prelude.{Option, Some, None}
use Rattle.quorum.specs.Vote.{backed, majority_mark, decided, vote_of}
use Rattle.locks.specs.Locks.{place_of, estimate_of, first_held}
use Rattle.limits.specs.Limits.{limits_of}
use Rattle.cluster.specs.Refusals.{Verdict, pass, declined, first_of}
use Rattle.marked_examples.specs.Examples.{Example, vote, places, request, table, vote_in, places_of, request_on, Says}

same_vote : Option ℕ → Option ℕ → Bool
same_vote None None = true
same_vote None (Some d) = false
same_vote (Some c) None = false
same_vote (Some c) (Some d) = eqb c d

same_list : List ℕ → List ℕ → Bool
same_list [] [] = true
same_list [] (y ∷ ys) = false
same_list (x ∷ xs) [] = false
same_list (x ∷ xs) (y ∷ ys) = eqb x y && same_list xs ys

same_verdict : Verdict → Verdict → Bool
same_verdict pass pass = true
same_verdict pass (declined n vs) = false
same_verdict (declined n vs) pass = false
same_verdict (declined n vs) (declined m us) = eqb n m && same_list vs us

holds : Example → Bool
holds (vote marks v) = same_vote (vote_in marks) v
holds (places k ps) = same_list (places_of k) ps
holds (request k entry client t) = same_verdict (request_on k entry client) t

every : List Example → Bool
every [] = true
every (x ∷ xs) = holds x && every xs

same_vote_lem : (v w : Option ℕ) → same_vote v w ≡ true → v ≡ w
unfolding same_vote
same_vote_lem None None e = refl
same_vote_lem None (Some d) e = absurd (false≢true e)
same_vote_lem (Some c) None e = absurd (false≢true e)
same_vote_lem (Some c) (Some d) e = ap Some (eqb-true c d e)

same_list_lem : (xs ys : List ℕ) → same_list xs ys ≡ true → xs ≡ ys
unfolding same_list
same_list_lem [] [] e = refl
same_list_lem [] (y ∷ ys) e = absurd (false≢true e)
same_list_lem (x ∷ xs) [] e = absurd (false≢true e)
same_list_lem (x ∷ xs) (y ∷ ys) e =
    let b = both (eqb x y) (same_list xs ys) e in
    ap₂ (λ (z : ℕ) (zs : List ℕ). z ∷ zs) (eqb-true x y b.0) (same_list_lem xs ys b.1)

same_verdict_lem : (t u : Verdict) → same_verdict t u ≡ true → t ≡ u
unfolding same_verdict
same_verdict_lem pass pass e = refl
same_verdict_lem pass (declined n vs) e = absurd (false≢true e)
same_verdict_lem (declined n vs) pass e = absurd (false≢true e)
same_verdict_lem (declined n vs) (declined m us) e =
    let b = both (eqb n m) (same_list vs us) e in
    ap₂ declined (eqb-true n m b.0) (same_list_lem vs us b.1)

says : (x : Example) → holds x ≡ true → Says x
unfolding holds
says (vote marks v) e = same_vote_lem (vote_in marks) v e
says (places k ps) e = same_list_lem (places_of k) ps e
says (request k entry client t) e = same_verdict_lem (request_on k entry client) t e

each : (xs : List Example) → every xs ≡ true → (x : Example) → Memᴰ x xs → Says x
unfolding every
each [] e x m = absurd (Memᴰ.not-nil m)
each (y ∷ ys) e x m =
    let b = both (holds y) (every ys) e in
    ⊎_elim (λ (q : x ≡ y). says x (rw q b.0)) (λ m. each ys b.1 x m) (Memᴰ.cases_cons m)

-- the whole table, by computation
computed : every table ≡ true
unfolding every holds same_vote same_verdict same_list first_of vote_of decided majority_mark backed highest count place_of estimate_of first_held limits_of
computed = refl

pub examples : (x : Example) → Memᴰ x table → Says x
examples = each table computed
