-- Number 15 as laws about a whole issue. Document 02, No. 2: "Refusal 15 is given only if an estimate is above the client's mark"; document 01: "the first
-- such lock and its estimate are given". An issue is declined by 15, with a lock and an estimate, exactly if it passes the refusals before 15 and that
-- lock is the first with an estimate above the client's mark (`locked_exactly`). So where an issue is not declined, its client's mark is at or above the
-- estimate of each of its locks (`aware`): the guarantee's conclusion on locks rests on that.
-- The statements come first, then their proofs.
-- Assumes nothing.
use mathlib.Core.Path.{◌≡◌, refl, sym, ap, ◌∙◌}
use mathlib.Core.Bool.{true, false, true≢false, false≢true}
use mathlib.Core.Logic.{◌↔◌}
use mathlib.Core.List.{List, [], ◌∷◌}
use Prim.Native.Nat.{ℕ}
use Rattle.std.specs.Prelude.{Option, Some, None}
use Rattle.locks.specs.declared.HeldLock.{HeldLock}
use Rattle.locks.specs.Locks.{held_lock, first_held}
use Rattle.locks.proofs.Conflicts.{NoneAbove, FirstAbove, granted_exactly, held_exactly}
use Rattle.segment.specs.declared.header.Stamp.{Stamp}
use Rattle.segment.specs.Pair.{Files}
use Rattle.cluster.specs.declared.Shape.{Shape}
use Rattle.cluster.specs.declared.Request.{Request}
use Rattle.cluster.specs.declared.Call.TheVariants as call
use Rattle.cluster.specs.State.{State, table_at}
use Rattle.cluster.specs.Replies.{no}
use Rattle.cluster.specs.Refusals.{Input, Row, is_held, held_by, lock_row, rows_of, pass, first_of}
use Rattle.cluster.specs.Effects.{Result}
use Rattle.cluster.specs.Step.{effect, step}
use Rattle.cluster.proofs.Rows.{passed}
use Rattle.cluster.proofs.Numbers.{mentions, until, given_exactly}
use Rattle.cluster.proofs.Declines.{effect_never_no}

-- ---- the statements

abbrev issue : ℕ → Request → List ℕ → List ℕ → List ℕ → Stamp → Files → List ℕ → Input
issue s q content locks given stamp files backup = record { call = call.Issue s q; content = content; locks = locks; given = given; stamp = stamp; files = files; backup = backup }

-- the values are the first lock of the request with an estimate above the client's mark, and that estimate
pub record GivenFirst (table locks : List ℕ) (client : ℕ) (values : List ℕ) : Type 0 where
  pub lock : ℕ
  pub estimate : ℕ
  pub given : values ≡ lock ∷ estimate ∷ []
  pub first : FirstAbove table locks client lock estimate

abbrev pub LockedExactly : Type 0
LockedExactly =
    (h : Shape) (x : State) (s : ℕ) (q : Request) (content locks given : List ℕ) (stamp : Stamp) (files : Files) (backup : List ℕ) (values : List ℕ)
    → let p = issue s q content locks given stamp files backup in
    ((step h x p).reply ≡ no 15 values) ↔ ((first_of (until 15 (rows_of h x p)) ≡ pass) × GivenFirst (table_at s x.tables) locks q.mark values)

abbrev pub Aware : Type 0
Aware =
    (h : Shape) (x : State) (s : ℕ) (q : Request) (content locks given : List ℕ) (stamp : Stamp) (files : Files) (backup : List ℕ)
    → first_of (rows_of h x (issue s q content locks given stamp files backup)) ≡ pass
    → NoneAbove (table_at s x.tables) locks q.mark

-- ---- their proofs

-- what a test of the locks says, by its row
row_held : (t : Option HeldLock) (values : List ℕ) → is_held t ≡ true → values ≡ held_by t → (k : ℕ) × (e : ℕ) × (values ≡ k ∷ e ∷ []) × (t ≡ Some (held_lock k e))
row_held None values b v = absurd (false≢true b)
row_held (Some l) values b v = (l.lock, l.estimate, v, refl)

row_free : (t : Option HeldLock) → is_held t ≡ false → t ≡ None
row_free None b = refl
row_free (Some l) b = absurd (true≢false b)

module _ (h : Shape) (x : State) (s : ℕ) (q : Request) (content locks given : List ℕ) (stamp : Stamp) (files : Files) (backup : List ℕ) where
  abbrev p : Input
  p = issue s q content locks given stamp files backup

  -- what the locks are judged by
  abbrev table : List ℕ
  table = table_at s x.tables

  abbrev client : ℕ
  client = q.mark

  abbrev found : Option HeldLock
  found = first_held table locks client

  abbrev e : Result
  e = effect h x p p.call

  abbrev ws : List Row
  ws = until 15 (rows_of h x p)

  -- 15 is the last row of issue's list
  by_row : (values : List ℕ) → ((step h x p).reply ≡ no 15 values) ↔ ((first_of ws ≡ pass) × (is_held found ≡ true) × (values ≡ held_by found))
  unfolding step mentions until
  by_row values = given_exactly ws (lock_row found) [] x e values refl refl (effect_never_no h x p 15 values)

  first_held_lem : (values : List ℕ) → is_held found ≡ true → values ≡ held_by found → GivenFirst table locks client values
  first_held_lem values b v =
      let w = row_held found values b v in
      record { lock = w.0; estimate = w.1; given = w.2; first = (held_exactly table locks client w.0 w.1).0 w.3 }

  held_first : (values : List ℕ) → GivenFirst table locks client values → (is_held found ≡ true) × (values ≡ held_by found)
  held_first values g =
      let t = (held_exactly table locks client g.lock g.estimate).1 g.first in
      (ap is_held t, g.given ∙ sym (ap held_by t))

  unlocked : first_of (rows_of h x p) ≡ pass → NoneAbove table locks client
  unlocked k = (granted_exactly table locks client).0 (row_free found (passed (rows_of h x p) k 15))

pub locked_exactly : LockedExactly
locked_exactly h x s q content locks given stamp files backup values =
    let row = by_row h x s q content locks given stamp files backup values in (
      λ r. let g = row.0 r in (g.0, first_held_lem h x s q content locks given stamp files backup values g.1 g.2),
      λ (k, f). let g = held_first h x s q content locks given stamp files backup values f in row.1 (k, g.0, g.1),
    )

pub aware : Aware
aware h x s q content locks given stamp files backup = unlocked h x s q content locks given stamp files backup
