-- Tests made one behind another by `?` are the list of their rows.
-- Assumes nothing.
use mathlib.Core.Path.{◌≡◌, refl, sym}
use mathlib.Core.Bool.{false}
use mathlib.Core.List.{List, ◌++◌}
use Prim.Native.Nat.{ℕ, ◌<◌}
use native.Mathlib.Omega.{arith}
use lib.ListN.{length, replicate, length-replicate}
use borrow.Author.Tests.{ltb-false}
use Rattle.std.specs.Prelude.{Result}
use Rattle.std.specs.Result.{IsErr, IsErrAnd}
use Rattle.std.proofs.lemmas.Result.{err_from_is_err_and}
use Rattle.cluster.specs.declared.Shape.{Shape}
use Rattle.cluster.specs.declared.Records.{Records}
use Rattle.cluster.specs.declared.Refusal.{Refusal}
use Rattle.cluster.specs.Replies.{number_of, values_of}
use Rattle.cluster.specs.Refusals.{Row, Verdict, pass, declined, server_rows, first_of, and_then}
use Rattle.cluster.proofs.Rows.{first_of_append, condition_of, passed}
use Rattle.checks.specs.Results.{state_of}
use Rattle.checks.specs.Verdicts.{verdict_of}

-- a first part of the list that passed leaves the rest to decide
pub behind : {v : Verdict} (ws us : List Row) → pass ≡ first_of ws → v ≡ first_of us → v ≡ first_of (ws ++ us)
unfolding and_then
behind ws us e q = rw (first_of_append ws us, ← e) q

-- a first part that declined decides: `?` hands out its refusal
pub stopped :
    {T : Type 0} (r : Result T Refusal) (why : Refusal) (ws us : List Row)
    → IsErr r × IsErrAnd r (λ y. y ≡ why)
    → declined (number_of why) (values_of why) ≡ first_of ws
    → verdict_of r ≡ first_of (ws ++ us)
unfolding and_then
stopped r why ws us h e = let p = err_from_is_err_and r h.1 in rw (first_of_append ws us, ← e, p.1, p.2) refl

-- a condition of a first part that passed is looked up by its number
pub no : (ws : List Row) → pass ≡ first_of ws → (n : ℕ) → condition_of n ws ≡ false
no ws e n = passed ws (sym e) n

-- 1 to 3 passed, whatever lies in the lent slices: there is such a server
pub is_server :
    (h : Shape) (r : Records) (media tables s : ℕ)
    → ((m t : List ℕ) → length m ≡ media → length t ≡ tables → pass ≡ first_of (server_rows h (state_of r m t) s))
    → s < 4
is_server h r media tables s passes =
    let m : List ℕ = replicate media 0 in
    let t : List ℕ = replicate tables 0 in
    let passed_here = passes m t (length-replicate media 0) (length-replicate tables 0) in
    omega (arith, ltb-false 3 s (no (server_rows h (state_of r m t) s) passed_here 3))
