-- The tests of a recovery's own refusals, in the order in which the code makes them, are the list of its rows.
-- Assumes nothing.
use mathlib.Core.Path.{◌≡◌, refl, sym, ap, ◌∙◌}
use mathlib.Core.Bool.{Bool, true, false, not, ◌||◌, or-true, or-false}
use mathlib.Core.List.{List, [], ◌∷◌, ◌++◌}
use Prim.Native.Nat.{ℕ, ◌+◌, ◌*◌, ◌/◌, ◌%◌}
use native.Mathlib.Nat.{div-add-mod'}
use native.Mathlib.Omega.{arith}
use native.Mathlib.Decide.{ℕ_discrete}
use lib.Dec.{eqb}
use lib.ListN.{length, length-map}
use borrow.Author.Tests.{eq-eqb, ne_eqb}
use Rattle.storage.specs.Sizes.{place_size}
use Rattle.cluster.specs.declared.Shape.{Shape}
use Rattle.cluster.specs.State.{State}
use Rattle.cluster.specs.Refusals.{Row, row, outside, only_idle, replica_rows, Verdict, pass, declined, first_of}
use Rattle.cluster.specs.declared.Refusal.{Refusal}
use Rattle.checks.specs.Verdicts.{verdict_of}
use Rattle.checks.proofs.Behind.{behind, stopped}
use Rattle.cluster.specs.Replies.{number_of, values_of}
use Rattle.std.specs.Prelude.{⊤, Result}
use Rattle.std.specs.Result.{IsErr, IsErrAnd}
use Rattle.std.proofs.lemmas.Result.{err_from_is_err_and}
use Rattle.recovery.specs.Recovery.{repeats, names_none, not_below, other_given, recovery_rows}
use Rattle.recovery.specs.Asked.{fate_of}
use Rattle.recovery.specs.Asked.{asked_of}

-- ---- the given bytes, by their quotient and rest

pub divided : (f g : ℕ) (b : Bool) → b ≡ (not (eqb (g / place_size) f) || not (eqb (g % place_size) 0)) → b ≡ not (eqb g (f * place_size))
divided f g b e = e ∙ go (ℕ_discrete (g / place_size) f) (ℕ_discrete (g % place_size) 0)
  where
    whole : g / place_size * place_size + g % place_size ≡ g
    whole = div-add-mod' g place_size

    go : Dec (g / place_size ≡ f) → Dec (g % place_size ≡ 0) → (not (eqb (g / place_size) f) || not (eqb (g % place_size) 0)) ≡ not (eqb g (f * place_size))
    go (yes p) (yes q) = rw (eq-eqb (g / place_size) f p, eq-eqb (g % place_size) 0 q, eq-eqb g (f * place_size) (omega arith))
    go (yes p) (no q) = rw (eq-eqb (g / place_size) f p, ne_eqb (g % place_size) 0 q, ne_eqb g (f * place_size) (λ x. omega arith))
    go (no p) q = rw (ne_eqb (g / place_size) f p, ne_eqb g (f * place_size) (λ x. omega arith))

pub none_listed : (l : List ℕ) → eqb (length l) 0 ≡ names_none l
none_listed [] = refl
none_listed (i ∷ is) = ne_eqb (length (i ∷ is)) 0 (λ x. omega arith)

-- ---- the rows

-- what a test alone came to says whether it held
held : (n : ℕ) (b : Bool) {m : ℕ} {vs : List ℕ} → declined m vs ≡ first_of (row n b ∷ []) → b ≡ true
unfolding first_of
held n true e = refl
held n false e = cc

free : (n : ℕ) (b : Bool) → pass ≡ first_of (row n b ∷ []) → b ≡ false
unfolding first_of
free n true e = cc
free n false e = refl

module _ (h : Shape) (x : State) (s : ℕ) (listed fs given : List ℕ) {b : Bool} (q : b ≡ not (eqb (length given) (length fs * place_size))) where
  bytes : b ≡ other_given (asked_of s listed fs given)
  bytes = q ∙ ap (λ (n : ℕ). not (eqb (length given) (n * place_size))) (sym (length-map fs fate_of))

  pub by_given : b ≡ true → declined 1 [] ≡ first_of (recovery_rows h x (asked_of s listed fs given))
  unfolding first_of
  by_given e = rw (sym bytes ∙ e, or-true (outside h (length x.media) (length x.tables)))

  abbrev front : List Row
  front = replica_rows h x s (not_below h.replicas listed) only_idle

  abbrev last : List Row
  last = row 29 (repeats listed || names_none listed) ∷ []

  rows_are : b ≡ false → front ++ last ≡ recovery_rows h x (asked_of s listed fs given)
  rows_are e = rw (sym bytes ∙ e, or-false (outside h (length x.media) (length x.tables)))

  -- the test of the given bytes held
  pub by_bytes : (r : Result ⊤ Refusal) (why : Refusal) → IsErr r × IsErrAnd r (λ y. y ≡ why) → declined (number_of why) (values_of why) ≡ first_of (row 1 b ∷ []) → verdict_of r ≡ first_of (recovery_rows h x (asked_of s listed fs given))
  unfolding first_of
  by_bytes r why i e =
      let t : b ≡ true = held 1 b e in
      let p = err_from_is_err_and r i.1 in
      rw (p.1, p.2) (e ∙ rw t (by_given t))

  -- n is whether a listed number is not below R, u whether the list is unfit; the rows behind the bytes decide, 29 the last
  module _ (e : pass ≡ first_of (row 1 b ∷ [])) {n : Bool} (en : n ≡ not_below h.replicas listed) where
    front_is : first_of (replica_rows h x s n only_idle) ≡ first_of front
    front_is = ap (λ (y : Bool). first_of (replica_rows h x s y only_idle)) en

    all_are : first_of (front ++ last) ≡ first_of (recovery_rows h x (asked_of s listed fs given))
    all_are = ap first_of (rows_are (free 1 b e))

    pub by_replica : (r : Result ⊤ Refusal) (why : Refusal) → IsErr r × IsErrAnd r (λ y. y ≡ why) → declined (number_of why) (values_of why) ≡ first_of (replica_rows h x s n only_idle) → verdict_of r ≡ first_of (recovery_rows h x (asked_of s listed fs given))
    by_replica r why i v = stopped r why front last i (v ∙ front_is) ∙ all_are

    pub by_list :
        {o : Verdict} {u : Bool}
        → pass ≡ first_of (replica_rows h x s n only_idle)
        → u ≡ (repeats listed || names_none listed)
        → o ≡ first_of (row 29 u ∷ [])
        → o ≡ first_of (recovery_rows h x (asked_of s listed fs given))
    by_list v eu eo = behind front last (v ∙ front_is) (eo ∙ ap (λ (y : Bool). first_of (row 29 y ∷ [])) eu) ∙ all_are
