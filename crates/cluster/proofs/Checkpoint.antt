-- Number 23 (document 02, No. 1) as laws about a whole call. An issue that passes the refusals before 23 is declined by it "when issued less the starting
-- mark is K or more" and not otherwise (`due_exactly`). "Once issued exceeds the starting mark by K, the server must open a new session before issuing
-- again": an ID that issue answers lies at most K above its session's starting mark (`within_interval`). "The script uses K = N": then none is declined
-- by 23, whatever the state (`never_due`). The statements come first, then their proofs.
-- Assumes nothing.
use mathlib.Core.Path.{◌≡◌, refl}
use mathlib.Core.Bool.{Bool, true}
use mathlib.Core.Logic.{◌↔◌}
use mathlib.Core.List.{List, [], ◌∷◌}
use Prim.Native.Nat.{ℕ, ◌+◌, ◌≤◌}
use native.Mathlib.Omega.{arith}
use borrow.Author.Tests.{leb-true, leb-false, le-leb, ltb-false, eqb-false}
use Rattle.segment.specs.declared.header.Stamp.{Stamp}
use Rattle.segment.specs.Pair.{Files}
use Rattle.cluster.specs.declared.Shape.{Shape}
use Rattle.cluster.specs.declared.Request.{Request}
use Rattle.cluster.specs.declared.Call.TheVariants as call
use Rattle.cluster.specs.declared.Server.{Server}
use Rattle.cluster.specs.State.{State, server_at}
use Rattle.cluster.specs.Replies.{ok, no}
use Rattle.cluster.specs.Refusals.{Input, Row, row, checkpoint_due, rows_of, pass, first_of}
use Rattle.cluster.specs.Effects.{Result, issue_effect}
use Rattle.cluster.specs.Step.{effect, unless, step}
use Rattle.cluster.proofs.Rows.{passed}
use Rattle.cluster.proofs.Marks.{marks_fit}
use Rattle.cluster.proofs.Numbers.{mentions, until, beyond, given_exactly, ok_passes}
use Rattle.cluster.proofs.Declines.{effect_never_no}

-- ---- the statements

abbrev issue : ℕ → Request → List ℕ → List ℕ → List ℕ → Stamp → Files → List ℕ → Input
issue s q content locks given stamp files backup = record { call = call.Issue s q; content = content; locks = locks; given = given; stamp = stamp; files = files; backup = backup }

abbrev pub DueExactly : Type 0
DueExactly =
    (h : Shape) (x : State) (s : ℕ) (q : Request) (content locks given : List ℕ) (stamp : Stamp) (files : Files) (backup : List ℕ)
    → let p = issue s q content locks given stamp files backup in
    let v = server_at x.records s in
    first_of (until 23 (rows_of h x p)) ≡ pass
    → ((step h x p).reply ≡ no 23 []) ↔ (v.start + h.interval ≤ v.issued)

abbrev pub WithinInterval : Type 0
WithinInterval =
    (h : Shape) (x : State) (s : ℕ) (q : Request) (content locks given : List ℕ) (stamp : Stamp) (files : Files) (backup : List ℕ) (n : ℕ) (vs : List ℕ)
    → (step h x (issue s q content locks given stamp files backup)).reply ≡ ok (n ∷ vs)
    → n ≤ (server_at x.records s).start + h.interval

abbrev pub NeverDue : Type 0
NeverDue =
    (h : Shape) (x : State) (s : ℕ) (q : Request) (content locks given : List ℕ) (stamp : Stamp) (files : Files) (backup : List ℕ) (values : List ℕ)
    → h.interval ≡ h.places
    → (step h x (issue s q content locks given stamp files backup)).reply ≡ no 23 values
    → ⊥

-- ---- when it is given

module _ (h : Shape) (x : State) (s : ℕ) (q : Request) (content locks given : List ℕ) (stamp : Stamp) (files : Files) (backup : List ℕ) where
  abbrev p : Input
  p = issue s q content locks given stamp files backup

  abbrev v : Server
  v = server_at x.records s

  abbrev e : Result
  e = effect h x p p.call

  -- the rows before 23, it, and those behind it
  abbrev ws : List Row
  ws = until 23 (rows_of h x p)

  abbrev due : Bool
  due = checkpoint_due h.interval v

  abbrev us : List Row
  us = beyond 23 (rows_of h x p)

  by_row : (values : List ℕ) → ((step h x p).reply ≡ no 23 values) ↔ ((first_of ws ≡ pass) × (due ≡ true) × (values ≡ []))
  unfolding step mentions until beyond
  by_row values = given_exactly ws (row 23 due) us x e values refl refl (effect_never_no h x p 23 values)

  when_due : (values : List ℕ) → (step h x p).reply ≡ no 23 values → v.start + h.interval ≤ v.issued
  when_due values r = leb-true (v.start + h.interval) v.issued ((by_row values).0 r).1

  then_due : first_of ws ≡ pass → v.start + h.interval ≤ v.issued → (step h x p).reply ≡ no 23 []
  then_due k l = (by_row []).1 (k, le-leb (v.start + h.interval) v.issued l, refl)

  -- with K = N: issued is at most N and is not N, so it is not N more than anything
  not_due : (values : List ℕ) → h.interval ≡ h.places → (step h x p).reply ≡ no 23 values → ⊥
  unfolding until
  not_due values whole r =
      let none = passed ws ((by_row values).0 r).0 in
      omega (
        arith,
        whole,
        when_due values r,
        (marks_fit h x.records s (omega (arith, ltb-false 3 s (none 3))) (none 2)).issued,
        eqb-false v.issued h.places (none 14),
      )

pub due_exactly : DueExactly
due_exactly h x s q content locks given stamp files backup k = (when_due h x s q content locks given stamp files backup [], then_due h x s q content locks given stamp files backup k)

pub never_due : NeverDue
never_due h x s q content locks given stamp files backup = not_due h x s q content locks given stamp files backup

-- ---- an ID that is answered

pub within_interval : WithinInterval
unfolding step unless issue_effect
within_interval h x s q content locks given stamp files backup n vs r =
    let p = issue s q content locks given stamp files backup in
    let v = server_at x.records s in
    let all = ok_passes (rows_of h x p) x (effect h x p p.call) (n ∷ vs) r in
    let same : v.issued + 1 ≡ n = cc (rw all at r) in
    omega (arith, same, leb-false (v.start + h.interval) v.issued (passed (rows_of h x p) all 23))
