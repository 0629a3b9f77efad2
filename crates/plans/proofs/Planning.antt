-- What a plan says where a check before it declined, and where all passed; and the vote as trim reads it.
-- Assumes nothing.
use mathlib.Core.Path.{◌≡◌, refl, sym, ◌∙◌}
use mathlib.Core.Bool.{Bool, true, false, not, cond}
use mathlib.Core.List.{List, [], ◌∷◌, ◌++◌}
use Prim.Native.Nat.{ℕ}
use native.Mathlib.Omega.{arith}
use lib.Dec.{leb}
use Rattle.std.specs.Prelude.{Option, Some, None, Result, Ok, Err}
use Rattle.std.specs.Option.{ok_or}
use Rattle.std.specs.Result.{IsErr, IsErrAnd}
use Rattle.std.proofs.lemmas.Result.{err_from_is_err_and}
use Rattle.std.proofs.lemmas.Bool.Decides.{nat_tests}
use Rattle.storage.specs.declared.operation.Operation.{Operation}
use Rattle.quorum.specs.Vote.{vote_of}
use Rattle.cluster.specs.declared.Refusal.{Refusal}
use Rattle.cluster.specs.declared.Refusal.TheVariants.{Undecided}
use Rattle.cluster.specs.declared.Server.{Server}
use Rattle.cluster.specs.State.{votes_at, mark_at}
use Rattle.cluster.specs.Replies.{number_of, values_of}
use Rattle.cluster.specs.Refusals.{undecided, vote_mark, nothing_to_trim, Row, row, pass, declined, first_of}
use Rattle.checks.proofs.Behind.{stopped}
use Rattle.plans.specs.Plans.{Planned}

-- the first rows declined
pub refused :
    (p : Result Operation Refusal) (why : Refusal) {o : Operation} (ws us : List Row)
    → IsErr p × IsErrAnd p (λ y. y ≡ why)
    → declined (number_of why) (values_of why) ≡ first_of ws
    → Planned p (first_of (ws ++ us)) o
refused p why {o} ws us h e =
    let r = err_from_is_err_and p h.1 in
    record { checked = stopped p why ws us h e; does = λ u q. cc }

pub goes : {o u : Operation} (ws : List Row) → pass ≡ first_of ws → o ≡ u → Planned (Ok o) (first_of ws) u
goes ws e q = record { checked = e; does = λ u r. cc }

-- ---- the vote, as trim reads it

-- a chosen value is there just where the choice holds
chosen_none : (b : Bool) (m : ℕ) → cond b (Some m) None ≡ None → not b ≡ true
chosen_none true m e = cc
chosen_none false m e = refl

chosen : (b : Bool) (m d : ℕ) → cond b (Some m) None ≡ Some d → (not b ≡ false) × (d ≡ m)
chosen true m d e = (refl, cc)
chosen false m d e = cc

module _ (r : ℕ) (v : Server) {vote : Option ℕ} (is : vote ≡ vote_of (votes_at v) (mark_at v) r) where
  -- no mark is decided: 8
  pub undecided_row :
      (why : Refusal)
      → vote ≡ None
      → ◌≡◌ {A = Result ℕ Refusal} (Err why) (ok_or vote Undecided)
      → declined (number_of why) (values_of why) ≡ first_of (row 8 (undecided r v) ∷ [])
  unfolding vote_of first_of
  undecided_row why none e =
      let u = chosen_none _ _ (sym is ∙ none) in
      let w : why ≡ Undecided = cc in
      rw (u, w) refl

  module _ {d : ℕ} (some : vote ≡ Some d) where
    pub decided_row : pass ≡ first_of (row 8 (undecided r v) ∷ [])
    unfolding vote_of first_of
    decided_row = let u = (chosen _ _ d (sym is ∙ some)).0 in rw u refl

    pub mark_is : d ≡ vote_mark r v
    unfolding vote_of
    mark_is = (chosen _ _ d (sym is ∙ some)).1

    pub trim_row : (i : ℕ) → leb (mark_at v i) d ≡ nothing_to_trim (vote_mark r v) v i
    trim_row i = let e = mark_is in rw (← e) (grind (arith, nat_tests))
