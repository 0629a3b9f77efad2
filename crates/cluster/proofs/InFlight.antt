-- Numbers 13 and 16 with eight in flight (document 02, No. 5) as laws about a whole call. An issue that passes the refusals before 13 is declined by it
-- exactly if "eight or more [are] unacknowledged" (`many_exactly`). A send that passes the refusals before 16 is declined by it exactly if "no held record
-- follows the replica's mark", where "Held are the IDs above the starting mark and above issued − 8, up to issued" (`unheld_exactly`). A lock's next
-- writer waits until the last one is acknowledged: where an issue is not declined, no estimate of its locks is above the acknowledged mark (`settled`).
-- The statements come first, then their proofs.
-- Assumes nothing.
use mathlib.Core.Path.{◌≡◌, refl, sym, ◌∙◌}
use mathlib.Core.Bool.{Bool, true, false, not, true≢false}
use mathlib.Core.Logic.{◌↔◌}
use mathlib.Core.List.{List, [], Memᴰ}
use Prim.Native.Nat.{ℕ, ◌+◌, ◌≤◌, ◌<◌}
use native.Mathlib.Omega.{arith}
use borrow.Author.Tests.{leb-true, le-leb, ltb-false, not-true}
use Rattle.fate.specs.declared.Fate.{Fate}
use Rattle.locks.specs.Locks.{estimate_of}
use Rattle.segment.specs.declared.header.Stamp.{Stamp}
use Rattle.segment.specs.Pair.{Files}
use Rattle.cluster.specs.declared.Shape.{Shape}
use Rattle.cluster.specs.declared.Request.{Request}
use Rattle.cluster.specs.declared.Call.TheVariants as call
use Rattle.cluster.specs.declared.Server.{Server}
use Rattle.cluster.specs.State.{State, server_at, mark_at, holds, table_at}
use Rattle.cluster.specs.Replies.{no}
use Rattle.cluster.specs.Refusals.{Input, row, unacknowledged, nothing_to_send, rows_of, pass, first_of}
use Rattle.cluster.specs.Step.{effect, step}
use Rattle.cluster.proofs.Rows.{passed}
use Rattle.cluster.proofs.Numbers.{making, mentions, until, beyond, given_exactly}
use Rattle.cluster.proofs.Declines.{effect_never_no}
use Rattle.cluster.proofs.Locked.{aware}
use Rattle.cluster.proofs.Window.{within, is_within}

-- ---- the statements

abbrev pub ManyExactly : Type 0
ManyExactly =
    (h : Shape) (x : State) (s : ℕ) (q : Request) (content locks given : List ℕ) (stamp : Stamp) (files : Files) (backup : List ℕ)
    → let p = making (call.Issue s q) content locks given stamp files backup in
    let v = server_at x.records s in
    first_of (until 13 (rows_of h x p)) ≡ pass
    → ((step h x p).reply ≡ no 13 []) ↔ (v.acked + 8 ≤ v.issued)

abbrev pub UnheldExactly : Type 0
UnheldExactly =
    (h : Shape) (x : State) (s i : ℕ) (f : Fate) (content locks given : List ℕ) (stamp : Stamp) (files : Files) (backup : List ℕ)
    → let p = making (call.Send s i f) content locks given stamp files backup in
    let v = server_at x.records s in
    let n = mark_at v i + 1 in
    first_of (until 16 (rows_of h x p)) ≡ pass
    → ((step h x p).reply ≡ no 16 []) ↔ (¬ ((v.start < n) × (n ≤ v.issued) × (v.issued < n + 8)))

abbrev pub Settled : Type 0
Settled =
    (h : Shape) (x : State) (s : ℕ) (q : Request) (content locks given : List ℕ) (stamp : Stamp) (files : Files) (backup : List ℕ)
    → first_of (rows_of h x (making (call.Issue s q) content locks given stamp files backup)) ≡ pass
    → (k : ℕ) → Memᴰ k locks → estimate_of (table_at s x.tables) k ≤ (server_at x.records s).acked

-- ---- their proofs

module _ (h : Shape) (x : State) (s : ℕ) (q : Request) (content locks given : List ℕ) (stamp : Stamp) (files : Files) (backup : List ℕ) where
  abbrev asked : Input
  asked = making (call.Issue s q) content locks given stamp files backup

  abbrev many : Bool
  many = unacknowledged (server_at x.records s)

  by_13 : ((step h x asked).reply ≡ no 13 []) ↔ ((first_of (until 13 (rows_of h x asked)) ≡ pass) × (many ≡ true) × (◌≡◌ {A = List ℕ} [] []))
  unfolding step mentions until beyond
  by_13 =
      given_exactly (until 13 (rows_of h x asked)) (row 13 many) (beyond 13 (rows_of h x asked)) x (effect h x asked asked.call) [] refl refl
      (effect_never_no h x asked 13 [])

pub many_exactly : ManyExactly
many_exactly h x s q content locks given stamp files backup k =
    let v = server_at x.records s in
    let row = by_13 h x s q content locks given stamp files backup in
    (λ r. leb-true (v.acked + 8) v.issued (row.0 r).1, λ l. row.1 (k, le-leb (v.acked + 8) v.issued l, refl))

module _ (h : Shape) (x : State) (s i : ℕ) (f : Fate) (content locks given : List ℕ) (stamp : Stamp) (files : Files) (backup : List ℕ) where
  abbrev sent : Input
  sent = making (call.Send s i f) content locks given stamp files backup

  abbrev nothing : Bool
  nothing = nothing_to_send (server_at x.records s) i

  by_16 : ((step h x sent).reply ≡ no 16 []) ↔ ((first_of (until 16 (rows_of h x sent)) ≡ pass) × (nothing ≡ true) × (◌≡◌ {A = List ℕ} [] []))
  unfolding step mentions until beyond
  by_16 =
      given_exactly (until 16 (rows_of h x sent)) (row 16 nothing) (beyond 16 (rows_of h x sent)) x (effect h x sent sent.call) [] refl refl
      (effect_never_no h x sent 16 [])

-- an ID is not held exactly if one of the three fails
held_or_not : (v : Server) (n : ℕ) → (not (holds v n) ≡ true) ↔ (¬ ((v.start < n) × (n ≤ v.issued) × (v.issued < n + 8)))
held_or_not v n = (
  λ e w. true≢false (sym (is_within v n (record { above = w.0; reached = w.1; recent = w.2 })) ∙ not-true (holds v n) e),
  λ w. go (holds v n) refl w,
)
  where
    go : (b : Bool) → holds v n ≡ b → ¬ ((v.start < n) × (n ≤ v.issued) × (v.issued < n + 8)) → not b ≡ true
    go true e w = let i = within v n e in absurd (w (i.above, i.reached, i.recent))
    go false e w = refl

pub unheld_exactly : UnheldExactly
unheld_exactly h x s i f content locks given stamp files backup k =
    let v = server_at x.records s in
    let row = by_16 h x s i f content locks given stamp files backup in
    let held = held_or_not v (mark_at v i + 1) in
    (λ r. held.0 (row.0 r).1, λ w. row.1 (k, held.1 w, refl))

-- 15 and 11
pub settled : Settled
settled h x s q content locks given stamp files backup e k m =
    let v = server_at x.records s in
    let p = making (call.Issue s q) content locks given stamp files backup in
    omega (arith, aware h x s q content locks given stamp files backup e k m, ltb-false v.acked q.mark (passed (rows_of h x p) e 11))
