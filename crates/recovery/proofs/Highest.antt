-- The highest mark of those of a list that vote, who has it, and how many of a list there are.
-- Assumes nothing.
use mathlib.Core.Path.{◌≡◌, refl, sym, ap, ◌∙◌, subst}
use mathlib.Core.Bool.{Bool, true, false, cond, ◌&&◌, ◌||◌, false≢true}
use mathlib.Core.Logic.{◌⊎◌, inl, inr, ⊎_elim}
use mathlib.Core.List.{List, [], ◌∷◌}
use Prim.Native.Nat.{ℕ, zero, suc, ◌+◌, ◌≤◌, ◌<◌, max}
use native.Mathlib.Omega.{arith}
use native.Mathlib.Decide.{ℕ_discrete}
use lib.Dec.{eqb}
use borrow.Author.Tests.{eq-eqb, ne_eqb, eqb-true}
use Rattle.base.specs.Below.{bit, count}
use Rattle.base.proofs.Below.{count_mono, count_sum, count_none}
use Rattle.base.proofs.Tests.{both, lt_or_le}
use Rattle.cluster.specs.declared.Server.{Server}
use Rattle.cluster.specs.State.{mark_at, votes_at}
use Rattle.recovery.specs.Recovery.{contains, repeats, not_below, voter_mark, highest_known, first_at}
use Rattle.recovery.specs.Arrival.{how_many}
use Rattle.recovery.proofs.Listed.{first_unique, first_below, first_in, later_in, in_either}

-- ---- the highest mark

module _ (v : Server) where
  -- who does not vote, a restored one too, counts with no mark, and who votes with its own
  no_voter : (i : ℕ) → votes_at v i ≡ false → voter_mark v i ≡ 0
  no_voter i e = ap (λ (b : Bool). cond b (mark_at v i) 0) e

  voter : (i : ℕ) → votes_at v i ≡ true → voter_mark v i ≡ mark_at v i
  voter i e = ap (λ (b : Bool). cond b (mark_at v i) 0) e

  pub highest_ge : (is : List ℕ) (i : ℕ) → contains is i ≡ true → votes_at v i ≡ true → mark_at v i ≤ highest_known v is
  unfolding highest_known contains
  highest_ge [] i e k = absurd (false≢true e)
  highest_ge (j ∷ is) i e k = ⊎_elim first (λ q. later (highest_ge is i q k)) (in_either j i is e)
    where
      first : i ≡ j → mark_at v i ≤ max (voter_mark v j) (highest_known v is)
      first q =
          let counts : voter_mark v i ≤ max (voter_mark v j) (highest_known v is) = rw q (omega arith) in
          omega (arith, counts, voter i k)

      later : mark_at v i ≤ highest_known v is → mark_at v i ≤ max (voter_mark v j) (highest_known v is)
      later q = omega (arith, q)

  -- one of a list that votes and has this mark
  pub record Has (is : List ℕ) (mark i : ℕ) : Type 0 where
    pub listed : contains is i ≡ true
    pub votes : votes_at v i ≡ true
    pub mark_is : mark_at v i ≡ mark

  more : (j : ℕ) (is : List ℕ) (mark i : ℕ) → Has is mark i → Has (j ∷ is) mark i
  more j is mark i g = record { listed = later_in j i is g.listed; votes = g.votes; mark_is = g.mark_is }

  -- where one votes, one of them has the highest mark
  attained : (is : List ℕ) → ((i : ℕ) × Has is (highest_known v is) i) ⊎ ((highest_known v is ≡ 0) × ((i : ℕ) → contains is i ≡ true → votes_at v i ≡ false))
  unfolding highest_known contains
  attained [] = inr (refl, λ i e. absurd (false≢true e))
  attained (j ∷ is) = go (votes_at v j) refl (attained is)
    where
      go : (b : Bool) → votes_at v j ≡ b
          → ((i : ℕ) × Has is (highest_known v is) i) ⊎ ((highest_known v is ≡ 0) × ((i : ℕ) → contains is i ≡ true → votes_at v i ≡ false))
          → ((i : ℕ) × Has (j ∷ is) (max (voter_mark v j) (highest_known v is)) i)
          ⊎ ((max (voter_mark v j) (highest_known v is) ≡ 0) × ((i : ℕ) → contains (j ∷ is) i ≡ true → votes_at v i ≡ false))
      go true e (inr (z, n)) = inl (j, record { listed = first_in j is; votes = e; mark_is = omega (arith, z, voter j e) })
      go true e (inl (i, g)) = ⊎_elim
          (λ (q : mark_at v j < mark_at v i). inl (i, record { listed = later_in j i is g.listed; votes = g.votes; mark_is = omega (arith, q, g.mark_is, voter j e) }))
          (λ (q : mark_at v i ≤ mark_at v j). inl (j, record { listed = first_in j is; votes = e; mark_is = omega (arith, q, g.mark_is, voter j e) }))
          (lt_or_le (mark_at v j) (mark_at v i))
      go false e (inl (i, g)) = inl (i, record { listed = later_in j i is g.listed; votes = g.votes; mark_is = omega (arith, g.mark_is, no_voter j e) })
      go false e (inr (z, n)) = inr (omega (arith, z, no_voter j e), λ i q. ⊎_elim (λ p. rw p e) (n i) (in_either j i is q))

  -- the first that has a mark, where one has
  first_found : (is : List ℕ) (mark i : ℕ) → Has is mark i → Has is mark (first_at v mark is)
  unfolding first_at contains
  first_found [] mark i g = absurd (false≢true g.listed)
  first_found (j ∷ is) mark i g =
      go (λ q. first_found is mark i (record { listed = q; votes = g.votes; mark_is = g.mark_is })) (votes_at v j && eqb (mark_at v j) mark) refl
    where
      later : (contains is i ≡ true → Has is mark (first_at v mark is)) → (votes_at v j && eqb (mark_at v j) mark) ≡ false → Has is mark (first_at v mark is)
      later r n = ⊎_elim
          (λ q.
          let here : (votes_at v i && eqb (mark_at v i) mark) ≡ true = rw (g.votes, eq-eqb (mark_at v i) mark g.mark_is) in
          absurd (false≢true (sym n ∙ subst (λ (k : ℕ). (votes_at v k && eqb (mark_at v k) mark) ≡ true) q here)))
          r
          (in_either j i is g.listed)

      go : (contains is i ≡ true → Has is mark (first_at v mark is)) → (b : Bool) → (votes_at v j && eqb (mark_at v j) mark) ≡ b
          → Has (j ∷ is) mark (cond b j (first_at v mark is))
      go r true e = let k = both (votes_at v j) (eqb (mark_at v j) mark) e in record { listed = first_in j is; votes = k.0; mark_is = eqb-true (mark_at v j) mark k.1 }
      go r false e = more j is mark (first_at v mark is) (later r e)

  -- so the source of the copies votes and has the highest mark; where none votes, that mark is 0
  pub source_or_none : (is : List ℕ) → Has is (highest_known v is) (first_at v (highest_known v is) is) ⊎ (highest_known v is ≡ 0)
  source_or_none is = ⊎_elim (λ (j, g). inl (first_found is (highest_known v is) j g)) (λ (z, n). inr z) (attained is)

  pub source_has : (is : List ℕ) (i : ℕ) → contains is i ≡ true → votes_at v i ≡ true → Has is (highest_known v is) (first_at v (highest_known v is) is)
  source_has is i e k =
      ⊎_elim
      (λ (j, g). first_found is (highest_known v is) j g)
      (λ (z, n). absurd (false≢true (sym (n i e) ∙ k)))
      (attained is)

-- ---- how many

-- of the numbers below n one more is counted, if one more is
count_more : (p q : ℕ → Bool) (n i : ℕ) → i < n → p i ≡ false → q i ≡ true → ((j : ℕ) → bit (p j) ≤ bit (q j)) → suc (count p n) ≤ count q n
unfolding count
count_more p q zero i l a b f = absurd (omega arith)
count_more p q (suc n) i l a b f = go (λ k. count_more p q n i k a b f) (ℕ_discrete i n)
  where
    go : (i < n → suc (count p n) ≤ count q n) → Dec (i ≡ n) → suc (count p n + bit (p n)) ≤ count q n + bit (q n)
    go r (yes e) =
        let pn : p n ≡ false = rw (sym e) a in
        let qn : q n ≡ true = rw (sym e) b in
        rw (pn, qn) (omega (arith, count_mono p q n (λ j k. f j)))
    go r (no e) = omega (arith, r (omega (arith, e)), f n)

-- those of a list without repeats, all below r, are among those that are counted below r
pub many_listed : (p q : ℕ → Bool) (r : ℕ) (is : List ℕ) → repeats is ≡ false → not_below r is ≡ false
    → ((i : ℕ) → contains is i ≡ true → p i ≡ true → q i ≡ true)
    → how_many p is ≤ count (λ i. q i && contains is i) r
unfolding how_many
many_listed p q r [] once below f = omega arith
many_listed p q r (i ∷ is) once below f =
    go (many_listed p q r is (first_unique i is once).1 (first_below r i is below).1 (λ j e k. f j (later_in i j is e) k)) (p i) refl
  where
    wider : (j : ℕ) → bit (q j && contains is j) ≤ bit (q j && contains (i ∷ is) j)
    wider j = at (q j) (contains is j) refl
      where
        at : (b c : Bool) → contains is j ≡ c → bit (b && c) ≤ bit (b && contains (i ∷ is) j)
        at false c e = omega arith
        at true true e = rw (later_in i j is e) (omega arith)
        at true false e = omega arith

    go : how_many p is ≤ count (λ j. q j && contains is j) r → (b : Bool) → p i ≡ b → bit (p i) + how_many p is ≤ count (λ j. q j && contains (i ∷ is) j) r
    go rest false e = rw e (omega (arith, rest, count_mono (λ j. q j && contains is j) (λ j. q j && contains (i ∷ is) j) r (λ j l. wider j)))
    go rest true e =
        let here : (q i && contains (i ∷ is) i) ≡ true = rw (f i (first_in i is) e, first_in i is) in
        let not_yet : (q i && contains is i) ≡ false = rw (f i (first_in i is) e, (first_unique i is once).0) in
        rw e (omega (arith, rest, count_more (λ j. q j && contains is j) (λ j. q j && contains (i ∷ is) j) r i (first_below r i is below).0 not_yet here wider))

-- the other way round: of those that are counted below n, the listed ones are at most as many as the list has
at_most_one : (q : ℕ → Bool) (j n : ℕ) → count (λ i. q i && eqb j i) n ≤ bit (q j)
unfolding count
at_most_one q j zero = omega arith
at_most_one q j (suc n) = go (at_most_one q j n) (ℕ_discrete j n)
  where
    never : (i : ℕ) → (j ≡ i → ⊥) → (q i && eqb j i) ≡ false
    never i e = rw (ne_eqb j i e) (at (q i))
      where
        at : (b : Bool) → (b && false) ≡ false
        at true = refl
        at false = refl

    less : (b c : Bool) → bit (b && c) ≤ bit b
    less true true = omega arith
    less true false = omega arith
    less false c = omega arith

    go : count (λ i. q i && eqb j i) n ≤ bit (q j) → Dec (j ≡ n) → count (λ i. q i && eqb j i) n + bit (q n && eqb j n) ≤ bit (q j)
    go r (yes e) =
        let before = count_none (λ i. q i && eqb j i) n (λ i l. never i (λ k. omega (arith, k, e, l))) in
        let here : bit (q n) ≡ bit (q j) = ap (λ (i : ℕ). bit (q i)) (sym e) in
        omega (arith, before, here, less (q n) (eqb j n))
    go r (no e) = let z = ap bit (never n e) in omega (arith, r, z)

pub listed_most : (q : ℕ → Bool) (n : ℕ) (is : List ℕ) → count (λ i. q i && contains is i) n ≤ how_many q is
unfolding how_many contains
listed_most q n [] = omega (arith, count_none (λ i. q i && false) n (λ i l. at (q i)))
  where
    at : (b : Bool) → (b && false) ≡ false
    at true = refl
    at false = refl
listed_most q n (j ∷ is) =
    let split = count_sum (λ i. q i && (eqb j i || contains is i)) (λ i. false) (λ i. q i && eqb j i) (λ i. q i && contains is i) n (λ i l. at (q i) (eqb j i) (contains is i)) in
    omega (arith, split, at_most_one q j n, listed_most q n is)
  where
    at : (a b c : Bool) → bit (a && (b || c)) + bit false ≤ bit (a && b) + bit (a && c)
    at true true true = omega arith
    at true true false = omega arith
    at true false true = omega arith
    at true false false = omega arith
    at false b c = omega arith
