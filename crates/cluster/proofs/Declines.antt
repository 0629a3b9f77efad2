-- Condition 1: a call is declined exactly for the first row of its list whose condition holds, and then changes nothing; otherwise it does
-- what is defined for it, and the reply is ok or silent. The numbers of each list follow the papers' order.
-- The statement comes first, then its proof; the theorem is `declines`.
-- Assumes nothing.
use mathlib.Core.Path.{◌≡◌, refl, sym, ap, ◌∙◌}
use mathlib.Core.Bool.{Bool, true, false, cond, ◌&&◌, false≢true}
use mathlib.Core.Logic.{◌↔◌, ◌⊎◌, inl, inr, ⊎_elim}
use mathlib.Core.List.{List, [], ◌∷◌, map}
use Prim.Native.Nat.{ℕ, zero, suc, ◌<◌}
use native.Mathlib.Omega.{arith}
use lib.ListN.{get_or}
use lib.Dec.{eqb}
use Rattle.base.proofs.Tests.{both}
use Rattle.segment.specs.declared.header.Stamp.{Stamp}
use Rattle.segment.specs.Pair.{Files}
use Rattle.cluster.specs.declared.Shape.{Shape}
use Rattle.cluster.specs.declared.Call.{Call}
use Rattle.cluster.specs.declared.Call.TheVariants as call
use Rattle.cluster.specs.State.{State}
use Rattle.cluster.specs.Replies.{Reply, ok, no, silent}
use Rattle.cluster.specs.Refusals.{Input, Row, order, checks_of, rows_of, pass, declined, first_of, answered}
use Rattle.cluster.specs.Effects.{Result, no_bytes, prepare_effect, trim_effect, note_effect, read_effect, export_effect, append_effect, take_effect, open_effect, issue_effect, stop_effect, reassign_effect, restore_effect}
use Rattle.cluster.specs.Step.{effect, unless, step, written, if_ok, files_after}

-- ---- the statement

-- row i of a list, from 0; anywhere else a row that never holds
abbrev pub no_row : Row
no_row = record { number = 0; holds = false; values = [] }

abbrev pub row_at : List Row → ℕ → Row
row_at ws i = get_or ws i no_row

-- row i holds, and no row before it does
pub record First (ws : List Row) (i : ℕ) : Type 0 where
  pub holds : (row_at ws i).holds ≡ true
  pub none_before : (k : ℕ) → k < i → (row_at ws k).holds ≡ false

abbrev pub NoneHolds : List Row → Type 0
NoneHolds ws = (i : ℕ) → (row_at ws i).holds ≡ false

-- the first row that holds has this number and these values
pub record DeclinedBy (ws : List Row) (n : ℕ) (values : List ℕ) : Type 0 where
  pub at : ℕ
  pub first : First ws at
  pub same_number : (row_at ws at).number ≡ n
  pub same_values : (row_at ws at).values ≡ values

-- the numbers stand in the order of another list, which may have more
unfoldable pub follows : List ℕ → List ℕ → Bool
follows [] ks = true
follows (n ∷ ns) [] = false
follows (n ∷ ns) (k ∷ ks) = cond (eqb n k) (follows ns ks) (follows (n ∷ ns) ks)

-- the call's message is answered; issue, stop and reassign send none, and nothing of them is lost
abbrev pub is_answered : Call → Bool
is_answered (call.Take s f) = answered f
is_answered (call.Prepare s i f) = answered f
is_answered (call.Copy s a b f) = answered f
is_answered (call.Trim s i f) = answered f
is_answered (call.Open s f) = answered f
is_answered (call.Issue s q) = true
is_answered (call.Send s i f) = answered f
is_answered (call.Note s i f) = answered f
is_answered (call.Read s i n f) = answered f
is_answered (call.Export s i f) = answered f
is_answered (call.Stop s) = true
is_answered call.Reassign = true
is_answered (call.Restore i) = true

pub record Declines (h : Shape) (x : State) (p : Input) : Type 0 where
  -- "Checked in this order"
  pub ordered : follows (map (λ w. w.number) (rows_of h x p)) order ≡ true
  -- the call is declined with number n exactly if the first row that holds has it, and with that row's values
  pub exactly : (n : ℕ) (values : List ℕ) → ((step h x p).reply ≡ no n values) ↔ DeclinedBy (rows_of h x p) n values
  -- then register, server records, media and lock tables are as they were, and the bytes are zeros
  pub unchanged :
      (n : ℕ) (values : List ℕ) → (step h x p).reply ≡ no n values → ((step h x p).state ≡ x) × ((step h x p).bytes ≡ no_bytes)
  -- "no reply but ok changes them": the two files that are lent to an export
  pub only_ok : ((values : List ℕ) → (step h x p).reply ≡ ok values → ⊥) → files_after h x p ≡ p.files
  -- otherwise the call does what is defined for it
  pub otherwise : NoneHolds (rows_of h x p) → step h x p ≡ effect h x p p.call
  -- and that is answered ok or, if the message isn't answered, silent; never no
  pub replies : (values : List ℕ) × ((effect h x p p.call).reply ≡ cond (is_answered p.call) (ok values) silent)
  -- "18 to 22 are seen only if the message is answered": what the receiver declines; reassign has no fate, and its 21 is always seen. So is the 1 of an
  -- export's two files: "checked after 20 and seen only if the message is answered"
  pub seen : (i : ℕ) → (row_at (checks_of h x p p.call).receiving i).holds ≡ true → is_answered p.call ≡ true

abbrev pub Statement : Type 0
Statement = (h : Shape) (x : State) (p : Input) → Declines h x p

-- ---- the first row of a list that holds

pub none_of : (ws : List Row) → NoneHolds ws → first_of ws ≡ pass
unfolding first_of
none_of [] e = refl
none_of (w ∷ ws) e = rw (e 0) (none_of ws (λ i. e (suc i)))

pub first_of_lem : (ws : List Row) (i : ℕ) → First ws i → first_of ws ≡ declined (row_at ws i).number (row_at ws i).values
unfolding first_of
first_of_lem [] i f = absurd (false≢true f.holds)
first_of_lem (w ∷ ws) zero f = rw f.holds
first_of_lem (w ∷ ws) (suc i) f =
    rw (f.none_before 0 (omega arith))
    (first_of_lem ws i (record { holds = f.holds; none_before = λ k l. f.none_before (suc k) (omega arith) }))

pub first_or_none : (ws : List Row) → ((i : ℕ) × First ws i) ⊎ NoneHolds ws
first_or_none [] = inr (λ i. refl)
first_or_none (w ∷ ws) = go w.holds refl (first_or_none ws)
  where
    go : (b : Bool) → w.holds ≡ b → ((i : ℕ) × First ws i) ⊎ NoneHolds ws → ((i : ℕ) × First (w ∷ ws) i) ⊎ NoneHolds (w ∷ ws)
    go true e d = inl (0, record { holds = e; none_before = λ k l. absurd (omega arith) })
    go false e (inl (i, f)) = inl (suc i, record { holds = f.holds; none_before = before })
      where
        before : (k : ℕ) → k < suc i → (row_at (w ∷ ws) k).holds ≡ false
        before zero l = e
        before (suc k) l = f.none_before k (omega arith)
    go false e (inr h) = inr all
      where
        all : NoneHolds (w ∷ ws)
        all zero = e
        all (suc i) = h i

-- ---- what a call replies, and which rows its receiver sees

-- every row of a list that holds is seen
SeenIn : Call → List Row → Type 0
SeenIn c [] = Unit {0}
SeenIn c (w ∷ ws) = (w.holds ≡ true → is_answered c ≡ true) × SeenIn c ws

seen_at : (c : Call) (ws : List Row) → SeenIn c ws → (i : ℕ) → (row_at ws i).holds ≡ true → is_answered c ≡ true
unfolding SeenIn
seen_at c [] v i e = absurd (false≢true e)
seen_at c (w ∷ ws) v zero e = v.0 e
seen_at c (w ∷ ws) v (suc i) e = seen_at c ws v.1 i e

-- a condition that asks for an answer first
asks : (a b : Bool) → (a && b) ≡ true → a ≡ true
asks a b e = (both a b e).0

module _ (h : Shape) (x : State) (p : Input) where
  received : (c : Call) → SeenIn c (checks_of h x p c).receiving
  unfolding SeenIn
  received (call.Take s f) = (asks _ _, tt)
  received (call.Prepare s i f) = (asks _ _, (asks _ _, tt))
  received (call.Copy s a b f) = (asks _ _, (asks _ _, (asks _ _, tt)))
  received (call.Trim s i f) = (asks _ _, (asks _ _, (asks _ _, tt)))
  received (call.Open s f) = (asks _ _, tt)
  received (call.Issue s q) = tt
  received (call.Send s i f) = (asks _ _, (asks _ _, (asks _ _, tt)))
  received (call.Note s i f) = (asks _ _, (asks _ _, (asks _ _, tt)))
  received (call.Read s i n f) = (asks _ _, (asks _ _, (asks _ _, tt)))
  received (call.Export s i f) = (asks _ _, (asks _ _, (asks _ _, (asks _ _, tt))))
  received (call.Stop s) = tt
  received call.Reassign = tt
  received (call.Restore i) = tt

  replies : (c : Call) → (values : List ℕ) × ((effect h x p c).reply ≡ cond (is_answered c) (ok values) silent)
  unfolding prepare_effect trim_effect note_effect read_effect export_effect append_effect take_effect open_effect issue_effect stop_effect reassign_effect restore_effect
  replies (call.Take s f) = (_, refl)
  replies (call.Prepare s i f) = (_, refl)
  replies (call.Copy s a b f) = (_, refl)
  replies (call.Trim s i f) = (_, refl)
  replies (call.Open s f) = (_, refl)
  replies (call.Issue s q) = (_, refl)
  replies (call.Send s i f) = (_, refl)
  replies (call.Note s i f) = (_, refl)
  replies (call.Read s i n f) = (_, refl)
  replies (call.Export s i f) = (_, refl)
  replies (call.Stop s) = (_, refl)
  replies call.Reassign = (_, refl)
  replies (call.Restore i) = (_, refl)

never_no : (a : Bool) (us : List ℕ) (n : ℕ) (vs : List ℕ) → cond a (ok us) silent ≡ no n vs → ⊥
never_no true us n vs e = let z : ◌≡◌ {A = ℕ} 0 1 = cc in omega arith
never_no false us n vs e = let z : ◌≡◌ {A = ℕ} 0 1 = cc in omega arith

-- what is defined for a call declines nothing
pub effect_never_no : (h : Shape) (x : State) (p : Input) (n : ℕ) (values : List ℕ) → (effect h x p p.call).reply ≡ no n values → ⊥
effect_never_no h x p n values q = let r = replies h x p p.call in never_no (is_answered p.call) r.0 n values (sym r.1 ∙ q)

-- ---- a call

ordered : (h : Shape) (x : State) (content locks given : List ℕ) (stamp : Stamp) (files : Files) (backup : List ℕ) (c : Call)
    → follows (map (λ w. w.number) (rows_of h x (record { call = c; content = content; locks = locks; given = given; stamp = stamp; files = files; backup = backup }))) order ≡ true
unfolding follows
ordered h x content locks given stamp files backup (call.Take s f) = refl
ordered h x content locks given stamp files backup (call.Prepare s i f) = refl
ordered h x content locks given stamp files backup (call.Copy s a b f) = refl
ordered h x content locks given stamp files backup (call.Trim s i f) = refl
ordered h x content locks given stamp files backup (call.Open s f) = refl
ordered h x content locks given stamp files backup (call.Issue s q) = refl
ordered h x content locks given stamp files backup (call.Send s i f) = refl
ordered h x content locks given stamp files backup (call.Note s i f) = refl
ordered h x content locks given stamp files backup (call.Read s i n f) = refl
ordered h x content locks given stamp files backup (call.Export s i f) = refl
ordered h x content locks given stamp files backup (call.Stop s) = refl
ordered h x content locks given stamp files backup call.Reassign = refl
ordered h x content locks given stamp files backup (call.Restore i) = refl

module _ (h : Shape) (x : State) (p : Input) where
  abbrev ws : List Row
  ws = rows_of h x p

  -- what a call leaves that is declined by row i
  abbrev declined_by : ℕ → Result
  declined_by i = record { state = x; reply = no (row_at ws i).number (row_at ws i).values; bytes = no_bytes }

  by_first : (i : ℕ) → First ws i → step h x p ≡ declined_by i
  unfolding step unless
  by_first i f = rw (first_of_lem ws i f)

  by_none : NoneHolds ws → step h x p ≡ effect h x p p.call
  unfolding step unless
  by_none e = rw (none_of ws e)

  -- a call that is declined has a first row that holds
  first_of_no : (n : ℕ) (values : List ℕ) → (step h x p).reply ≡ no n values → DeclinedBy ws n values
  first_of_no n values e = ⊎_elim found none (first_or_none ws)
    where
      found : (i : ℕ) × First ws i → DeclinedBy ws n values
      found (i, f) =
          let same : no (row_at ws i).number (row_at ws i).values ≡ no n values = sym (ap (λ r. r.reply) (by_first i f)) ∙ e in
          record { at = i; first = f; same_number = cc; same_values = cc }

      none : NoneHolds ws → DeclinedBy ws n values
      none q = absurd (effect_never_no h x p n values (sym (ap (λ r. r.reply) (by_none q)) ∙ e))

  no_of_first : (n : ℕ) (values : List ℕ) → DeclinedBy ws n values → (step h x p).reply ≡ no n values
  no_of_first n values d = ap (λ r. r.reply) (by_first d.at d.first) ∙ rw (d.same_number, d.same_values)

  only_ok : ((values : List ℕ) → (step h x p).reply ≡ ok values → ⊥) → files_after h x p ≡ p.files
  unfolding files_after if_ok
  only_ok never = go (step h x p).reply refl
    where
      go : (r : Reply) → (step h x p).reply ≡ r → if_ok r (written h x p p.call) p.files ≡ p.files
      go (ok values) e = absurd (never values e)
      go (no n values) e = refl
      go silent e = refl

pub declines : Statement
declines h x p = record {
  ordered = ordered h x p.content p.locks p.given p.stamp p.files p.backup p.call;
  exactly = λ n values. (first_of_no h x p n values, no_of_first h x p n values);
  unchanged = λ n values e. let d = first_of_no h x p n values e in let q = by_first h x p d.at d.first in (ap (λ r. r.state) q, ap (λ r. r.bytes) q);
  only_ok = only_ok h x p;
  otherwise = by_none h x p;
  replies = replies h x p p.call;
  seen = seen_at p.call (checks_of h x p p.call).receiving (received h x p p.call);
}
