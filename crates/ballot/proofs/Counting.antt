-- open's vote as it is counted, and the lists made by its flags.
-- Assumes nothing.
use mathlib.Core.Path.{◌≡◌, refl, sym, ap, ap₂, ◌∙◌}
use mathlib.Core.Bool.{Bool, true, false, not, cond}
use mathlib.Core.List.{List, [], ◌∷◌}
use Prim.Native.Nat.{ℕ, zero, suc, ◌≤◌, ◌<◌}
use native.Mathlib.Omega.{arith}
use lib.ListN.{get_or, set, replicate, length-replicate}
use Rattle.std.specs.Prelude.{⊤, Option, Some, None, is_none}
use Rattle.std.proofs.lemmas.Option.{cond_some, MatchOption-at_some}
use Rattle.base.specs.Below.{count, up_to}
use Rattle.base.proofs.Below.{up_to_at}
use Rattle.base.proofs.Same.{Same, count_same}
use Rattle.quorum.specs.Vote.{flags_of, majority_mark, decided, vote_of}
use Rattle.cluster.specs.declared.Register.{Register}
use Rattle.cluster.specs.declared.Server.{Server}
use Rattle.cluster.specs.State.{mark_at, votes_at, entry_at}
use Rattle.cluster.specs.Refusals.{undecided, vote_mark, clean_at, too_few_clean, Row, row, first_of}
use Rattle.cluster.specs.Effects.{entry_after}
use Rattle.ballot.specs.declared.Ballot.{Ballot}
use Rattle.ballot.specs.Counted.{Counted, CountedOf}

-- a list written anew depends only on the values below n
pub up_to_same : {A : Type 0} (n : ℕ) (f g : ℕ → A) (l : List A) → Same n f g → up_to f l n ≡ up_to g l n
unfolding up_to
up_to_same zero f g l e = refl
up_to_same (suc n) f g l e = ap₂ (λ (xs : List _) (x : _). set xs n x) (up_to_same n f g l (λ i h. e i (omega arith))) (e n (omega arith))

-- an array of flags read at a number below n
pub flag_at : (p : ℕ → Bool) (n i : ℕ) (flags : List Bool) → n ≤ 7 → i < n → flags ≡ up_to p (replicate 7 false) n → flags_of flags i ≡ p i
flag_at p n i flags h l e = ap (λ (f : List Bool). get_or f i false) e ∙ up_to_at p (replicate 7 false) n i false l (omega (arith, length-replicate {A = Bool} 7 false))

-- ---- the vote

cond_none : (b : Bool) (m : ℕ) → cond b (Some m) None ≡ None → b ≡ false
cond_none true m e = grind arith
cond_none false m e = refl

module _ (v : Server) (r : ℕ) {x : Option ℕ} (q : x ≡ vote_of (votes_at v) (mark_at v) r) where
  pub not_decided : x ≡ None → true ≡ undecided r v
  unfolding vote_of
  not_decided u = sym (ap not (cond_none _ _ (sym q ∙ u)))

  pub is_decided : (d : ℕ) → x ≡ Some d → (false ≡ undecided r v) × (d ≡ vote_mark r v)
  unfolding vote_of
  is_decided d u =
      let w = cond_some (decided (votes_at v) (mark_at v) r) (majority_mark (votes_at v) (mark_at v) r) d (sym q ∙ u) in
      (sym (ap not w.0), sym w.1)

-- what is made by the clean flags
module _ (v : Server) (d r : ℕ) (clean : List Bool) (h : r ≤ 7) (e : clean ≡ up_to (clean_at v d) (replicate 7 false) r) where
  clean_at_lem : Same r (flags_of clean) (clean_at v d)
  clean_at_lem i l = flag_at (clean_at v d) r i clean h l e

  pub clean_count : count (flags_of clean) r ≡ count (clean_at v d) r
  clean_count = count_same r (flags_of clean) (clean_at v d) clean_at_lem

  pub entries_are :
      (g : Register)
      → up_to (λ i. entry_after (entry_at g.entries i) (flags_of clean i) v.session d) g.entries r
      ≡ up_to (λ i. entry_after (entry_at g.entries i) (clean_at v d i) v.session d) g.entries r
  entries_are g = up_to_same r _ _ g.entries (λ i l. ap (λ (b : Bool). entry_after (entry_at g.entries i) b v.session d) (clean_at_lem i l))

  pub marks_are : up_to (λ i. cond (flags_of clean i) d 0) (replicate 7 0) r ≡ up_to (λ i. cond (clean_at v d i) d 0) (replicate 7 0) r
  marks_are = up_to_same r _ _ (replicate 7 0) (λ i l. ap (λ (b : Bool). cond b d 0) (clean_at_lem i l))

-- 9 by the ballot, where there is one
abbrev pub few : Option Ballot → Bool
few None = true
few (Some b) = too_few_clean b.replicas b.server.now b.mark

-- 8 and 9 by the ballot: 9 need only be right if the mark is decided
pub ballot_rows :
    (v : Server) (r : ℕ) (b : Option Ballot) (o a z : Row)
    → Counted v r b
    → first_of (o ∷ a ∷ row 8 (is_none b) ∷ row 9 (few b) ∷ z ∷ []) ≡ first_of (o ∷ a ∷ row 8 (undecided r v) ∷ row 9 (too_few_clean r v (vote_mark r v)) ∷ z ∷ [])
unfolding first_of
ballot_rows v r None o a z n = rw (← n.voted) refl
ballot_rows v r (Some b) o a z n =
    let m = MatchOption-at_some ⊤ (CountedOf v r) b refl n.ballot in
    let e : too_few_clean b.replicas b.server.now b.mark ≡ too_few_clean r v (vote_mark r v) = rw (m.server, m.replicas, m.at) refl in
    rw (← n.voted, e) refl
