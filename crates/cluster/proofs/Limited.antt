-- Number 12 (document 02, No. 6) as laws about a whole issue, shown once for a limit pair and used for both. Under any pair: past the refusals before 12 an
-- issue is declined by it exactly if its data or its locks exceed the pair, and a request that is given an ID is within the pair (`under_any`). The call
-- itself is an issue under the pair that belongs to the client (`own_pair`); so the gates, "numbers below 100", are held to 12 bytes and 1 lock, and all
-- others to 28 and 4 (`for_both`). Whichever pair it is, a place has room for its bytes (`has_room`): that is all that the call's proof and the guarantee
-- take of it. The statements come first, then their proofs.
-- Assumes nothing.
use mathlib.Core.Path.{◌≡◌, refl, subst, subst⁻¹}
use mathlib.Core.Bool.{Bool, true, false}
use mathlib.Core.Logic.{◌↔◌, ◌⊎◌}
use mathlib.Core.List.{List, []}
use Prim.Native.Nat.{ℕ, ◌≤◌, ◌<◌}
use native.Mathlib.Omega.{arith}
use lib.ListN.{length}
use lib.Dec.{lit≤}
use Rattle.storage.specs.Sizes.{data_limit}
use Rattle.limits.specs.declared.Limits.{Limits}
use Rattle.limits.specs.Limits.{gate_limits, booking_limits, limits_of, too_much}
use Rattle.limits.proofs.Pairs.{of_gate, of_booking, of_any, exceeds_exactly, within_pair}
use Rattle.segment.specs.declared.header.Stamp.{Stamp}
use Rattle.segment.specs.Pair.{Files}
use Rattle.cluster.specs.declared.Shape.{Shape}
use Rattle.cluster.specs.declared.Request.{Request}
use Rattle.cluster.specs.declared.Call.TheVariants as call
use Rattle.cluster.specs.State.{State}
use Rattle.cluster.specs.Replies.{ok, no}
use Rattle.cluster.specs.Refusals.{Input, Row, row, issue_checks, list_of, rows_of, pass, first_of}
use Rattle.cluster.specs.Effects.{Result, issue_effect}
use Rattle.cluster.specs.Step.{step, issue_under}
use Rattle.cluster.proofs.Rows.{passed}
use Rattle.cluster.proofs.Numbers.{mentions, until, beyond, given_exactly, ok_passes}

-- ---- the statements

-- an issue with this list of rows and this result holds its request to a pair
pub record Limited (l : Limits) (content locks : List ℕ) (ws : List Row) (r : Result) : Type 0 where
  pub exactly : first_of (until 12 ws) ≡ pass → (r.reply ≡ no 12 []) ↔ ((l.bytes < length content) ⊎ (l.locks < length locks))
  pub within : (values : List ℕ) → r.reply ≡ ok values → (length content ≤ l.bytes) × (length locks ≤ l.locks)

abbrev pub UnderAny : Type 0
UnderAny =
    (l : Limits) (h : Shape) (x : State) (s : ℕ) (q : Request) (content locks : List ℕ)
    → Limited l content locks (list_of (issue_checks l h x s q content locks)) (issue_under l h x s q content locks)

abbrev issue : ℕ → Request → List ℕ → List ℕ → List ℕ → Stamp → Files → List ℕ → Input
issue s q content locks given stamp files backup = record { call = call.Issue s q; content = content; locks = locks; given = given; stamp = stamp; files = files; backup = backup }

abbrev pub OwnPair : Type 0
OwnPair =
    (h : Shape) (x : State) (s : ℕ) (q : Request) (content locks given : List ℕ) (stamp : Stamp) (files : Files) (backup : List ℕ)
    → step h x (issue s q content locks given stamp files backup) ≡ issue_under (limits_of q.client) h x s q content locks

abbrev pub ForBoth : Type 0
ForBoth =
    (h : Shape) (x : State) (s : ℕ) (q : Request) (content locks given : List ℕ) (stamp : Stamp) (files : Files) (backup : List ℕ)
    → let p = issue s q content locks given stamp files backup in
    (q.client < 100 → Limited gate_limits content locks (rows_of h x p) (step h x p))
    × (100 ≤ q.client → Limited booking_limits content locks (rows_of h x p) (step h x p))

abbrev pub HasRoom : Type 0
HasRoom = (client : ℕ) → (limits_of client).bytes ≤ data_limit

-- ---- under any pair

module _ (l : Limits) (h : Shape) (x : State) (s : ℕ) (q : Request) (content locks : List ℕ) where
  abbrev ws : List Row
  ws = list_of (issue_checks l h x s q content locks)

  abbrev much : Bool
  much = too_much l (length content) (length locks)

  abbrev e : Result
  e = issue_effect x s q content locks

  -- an issue's effect is an ID
  never : e.reply ≡ no 12 [] → ⊥
  unfolding issue_effect
  never r = let z : ◌≡◌ {A = ℕ} 0 1 = cc in absurd (omega arith)

  by_row : ((issue_under l h x s q content locks).reply ≡ no 12 []) ↔ ((first_of (until 12 ws) ≡ pass) × (much ≡ true) × (◌≡◌ {A = List ℕ} [] []))
  unfolding mentions until beyond
  by_row = given_exactly (until 12 ws) (row 12 much) (beyond 12 ws) x e [] refl refl never

  limited : Limited l content locks ws (issue_under l h x s q content locks)
  limited =
      let exceeds = exceeds_exactly l (length content) (length locks) in
      record {
        exactly = λ k. (λ r. exceeds.0 (by_row.0 r).1, λ w. by_row.1 (k, exceeds.1 w, refl));
        within = λ values r. within_pair l (length content) (length locks) (passed ws (ok_passes ws x e values r) 12);
      }

pub under_any : UnderAny
under_any = limited

-- ---- under the client's own

pub own_pair : OwnPair
unfolding step
own_pair h x s q content locks given stamp files backup = refl

pub for_both : ForBoth
for_both h x s q content locks given stamp files backup =
    let p = issue s q content locks given stamp files backup in
    let rows = rows_of h x p in
    let under : Limited (limits_of q.client) content locks rows (issue_under (limits_of q.client) h x s q content locks) =
    under_any (limits_of q.client) h x s q content locks in
    let own = subst⁻¹ (Limited (limits_of q.client) content locks rows) (own_pair h x s q content locks given stamp files backup) under in
    let held_to : Limits → Type 0 = λ l. Limited l content locks rows (step h x p) in
    (λ g. subst held_to (of_gate q.client g) own, λ b. subst held_to (of_booking q.client b) own)

pub has_room : HasRoom
has_room = of_any (λ l. l.bytes ≤ data_limit) (lit≤ tt) (lit≤ tt)

-- data that pass 12 fit a place, under any pair that a place has room for
pub fits_place : (l : Limits) (size locks : ℕ) → l.bytes ≤ data_limit → too_much l size locks ≡ false → size ≤ data_limit
fits_place l size locks room e = omega (arith, room, (within_pair l size locks e).0)
