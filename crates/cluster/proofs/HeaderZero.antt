-- Number 28 (document 02, No. 8) as laws about a whole call. An issue that passes the refusals before 28 is declined by it exactly if its header is 0
-- (`zero_exactly`). These are 1, 2, 3, 5, 10, 11 and 12, and 13, 14, 23 and 15 stand behind it (`just_after_12`); none of them looks at the header
-- (`nowhere_else`). "New requests with header 0 are no longer taken": one that is given an ID has another, and so has the record made for it (`taken`).
-- No other call is ever declined by 28 (`only_issue`). The statements come first, then their proofs.
-- Assumes nothing.
use mathlib.Core.Path.{◌≡◌, refl}
use mathlib.Core.Bool.{true, false}
use mathlib.Core.Logic.{◌↔◌}
use mathlib.Core.List.{List, [], ◌∷◌, map}
use Prim.Native.Nat.{ℕ, ◌≤◌}
use native.Mathlib.Omega.{arith}
use borrow.Author.Tests.{eqb-true, eqb-false, eq-eqb}
use Rattle.segment.specs.declared.header.Stamp.{Stamp}
use Rattle.segment.specs.Pair.{Files}
use Rattle.cluster.specs.declared.Shape.{Shape}
use Rattle.cluster.specs.declared.Request.{Request}
use Rattle.cluster.specs.declared.Call.{Call}
use Rattle.cluster.specs.declared.Call.TheVariants as call
use Rattle.cluster.specs.State.{State}
use Rattle.cluster.specs.Replies.{ok, no}
use Rattle.cluster.specs.Refusals.{Input, row, header_zero, rows_of, pass, first_of}
use Rattle.cluster.specs.Effects.{issued_fields}
use Rattle.cluster.specs.Step.{effect, step}
use Rattle.cluster.proofs.Rows.{passed}
use Rattle.cluster.proofs.Numbers.{making, mentions, until, beyond, other_number, given_exactly, ok_passes}
use Rattle.cluster.proofs.Declines.{effect_never_no}

-- ---- the statements

abbrev pub ZeroExactly : Type 0
ZeroExactly =
    (h : Shape) (x : State) (s : ℕ) (q : Request) (content locks given : List ℕ) (stamp : Stamp) (files : Files) (backup : List ℕ)
    → let p = making (call.Issue s q) content locks given stamp files backup in
    first_of (until 28 (rows_of h x p)) ≡ pass
    → ((step h x p).reply ≡ no 28 []) ↔ (q.header ≡ 0)

-- "just after 12": the numbers before it and behind it in an issue's list
abbrev pub JustAfter12 : Type 0
JustAfter12 =
    (h : Shape) (x : State) (s : ℕ) (q : Request) (content locks given : List ℕ) (stamp : Stamp) (files : Files) (backup : List ℕ)
    → let ws = rows_of h x (making (call.Issue s q) content locks given stamp files backup) in
    (map (λ w. w.number) (until 28 ws) ≡ 1 ∷ 2 ∷ 3 ∷ 5 ∷ 10 ∷ 11 ∷ 12 ∷ []) × (map (λ w. w.number) (beyond 28 ws) ≡ 13 ∷ 14 ∷ 23 ∷ 15 ∷ [])

-- the same request with another header
abbrev pub with_header : Request → ℕ → Request
with_header q k =
    record { mark = q.mark; client = q.client; generation = q.generation; partition = q.partition; sequence = q.sequence; header = k }

abbrev pub NowhereElse : Type 0
NowhereElse =
    (h : Shape) (x : State) (s : ℕ) (q : Request) (k : ℕ) (content locks given : List ℕ) (stamp : Stamp) (files : Files) (backup : List ℕ)
    → let ws = rows_of h x (making (call.Issue s q) content locks given stamp files backup) in
    let us = rows_of h x (making (call.Issue s (with_header q k)) content locks given stamp files backup) in
    (until 28 ws ≡ until 28 us) × (beyond 28 ws ≡ beyond 28 us)

abbrev pub Taken : Type 0
Taken =
    (h : Shape) (x : State) (s : ℕ) (q : Request) (content locks given : List ℕ) (stamp : Stamp) (files : Files) (backup : List ℕ) (n : ℕ) (vs : List ℕ)
    → (step h x (making (call.Issue s q) content locks given stamp files backup)).reply ≡ ok (n ∷ vs)
    → (1 ≤ q.header) × ((issued_fields n q).header ≡ q.header)

-- an issue of a request with header 0
pub record ZeroIssue (c : Call) : Type 0 where
  pub server : ℕ
  pub request : Request
  pub issues : c ≡ call.Issue server request
  pub zero : request.header ≡ 0

abbrev pub OnlyIssue : Type 0
OnlyIssue =
    (h : Shape) (x : State) (p : Input) (values : List ℕ)
    → (step h x p).reply ≡ no 28 values
    → ZeroIssue p.call × (values ≡ [])

-- ---- when it is given

module _ (h : Shape) (x : State) (s : ℕ) (q : Request) (content locks given : List ℕ) (stamp : Stamp) (files : Files) (backup : List ℕ) where
  abbrev asked : Input
  asked = making (call.Issue s q) content locks given stamp files backup

  by_28 : (values : List ℕ)
      → ((step h x asked).reply ≡ no 28 values) ↔ ((first_of (until 28 (rows_of h x asked)) ≡ pass) × (header_zero q ≡ true) × (values ≡ []))
  unfolding step mentions until beyond
  by_28 values =
      given_exactly (until 28 (rows_of h x asked)) (row 28 (header_zero q)) (beyond 28 (rows_of h x asked)) x (effect h x asked asked.call) values refl refl
      (effect_never_no h x asked 28 values)

pub zero_exactly : ZeroExactly
zero_exactly h x s q content locks given stamp files backup k =
    let given-28 = by_28 h x s q content locks given stamp files backup [] in
    (λ r. eqb-true q.header 0 (given-28.0 r).1, λ z. given-28.1 (k, eq-eqb q.header 0 z, refl))

pub just_after_12 : JustAfter12
unfolding until beyond
just_after_12 h x s q content locks given stamp files backup = (refl, refl)

pub nowhere_else : NowhereElse
unfolding until beyond
nowhere_else h x s q k content locks given stamp files backup = (refl, refl)

pub taken : Taken
unfolding step
taken h x s q content locks given stamp files backup n vs r =
    let p = making (call.Issue s q) content locks given stamp files backup in
    let all = ok_passes (rows_of h x p) x (effect h x p p.call) (n ∷ vs) r in
    (omega (arith, eqb-false q.header 0 (passed (rows_of h x p) all 28)), refl)

-- a call whose list does not have 28 is not declined by it
unmentioned : (h : Shape) (x : State) (p : Input) (values : List ℕ) → mentions 28 (rows_of h x p) ≡ false → (step h x p).reply ≡ no 28 values → ⊥
unfolding step
unmentioned h x p values e r = effect_never_no h x p 28 values (other_number (rows_of h x p) x (effect h x p p.call) 28 values e r)

by_issue : (h : Shape) (x : State) (content locks given : List ℕ) (stamp : Stamp) (files : Files) (backup : List ℕ) (values : List ℕ) (c : Call)
    → (step h x (making c content locks given stamp files backup)).reply ≡ no 28 values
    → ZeroIssue c × (values ≡ [])
unfolding mentions
by_issue h x content locks given stamp files backup values (call.Issue s q) r =
    let held = (by_28 h x s q content locks given stamp files backup values).0 r in
    (record { server = s; request = q; issues = refl; zero = eqb-true q.header 0 held.1 }, held.2)
by_issue h x content locks given stamp files backup values (call.Take s f) r = absurd (unmentioned h x _ values refl r)
by_issue h x content locks given stamp files backup values (call.Prepare s i f) r = absurd (unmentioned h x _ values refl r)
by_issue h x content locks given stamp files backup values (call.Copy s a b f) r = absurd (unmentioned h x _ values refl r)
by_issue h x content locks given stamp files backup values (call.Trim s i f) r = absurd (unmentioned h x _ values refl r)
by_issue h x content locks given stamp files backup values (call.Open s f) r = absurd (unmentioned h x _ values refl r)
by_issue h x content locks given stamp files backup values (call.Send s i f) r = absurd (unmentioned h x _ values refl r)
by_issue h x content locks given stamp files backup values (call.Note s i f) r = absurd (unmentioned h x _ values refl r)
by_issue h x content locks given stamp files backup values (call.Read s i n f) r = absurd (unmentioned h x _ values refl r)
by_issue h x content locks given stamp files backup values (call.Export s i f) r = absurd (unmentioned h x _ values refl r)
by_issue h x content locks given stamp files backup values (call.Stop s) r = absurd (unmentioned h x _ values refl r)
by_issue h x content locks given stamp files backup values call.Reassign r = absurd (unmentioned h x _ values refl r)
by_issue h x content locks given stamp files backup values (call.Restore i) r = absurd (unmentioned h x _ values refl r)

pub only_issue : OnlyIssue
only_issue h x p values r = by_issue h x p.content p.locks p.given p.stamp p.files p.backup values p.call r
