-- What the running answer holds is what the definition says, case by case, over plain values.
-- Assumes nothing.
use mathlib.Core.Path.{◌≡◌, refl, sym, ap, ap₂, ◌∙◌}
use mathlib.Core.List.{List, []}
use mathlib.Core.Bool.{Bool, true, false, cond}
use Prim.Native.Nat.{ℕ, ◌-◌, ◌*◌}
use native.Mathlib.Omega.{arith}
use lib.ListN.{length, take}
use borrow.Rule.Slice.PartMut.{put_mid}
use Rattle.std.specs.Prelude.{Some, None}
use Rattle.octets.specs.Octets.{write_at}
use Rattle.octets.proofs.Laws.{mid_write, part_write}
use Rattle.storage.specs.Sizes.{medium_size}
use Rattle.cluster.specs.declared.Shape.{Shape}
use Rattle.cluster.specs.declared.Records.{Records}
use Rattle.cluster.specs.declared.Call.{Call}
use Rattle.cluster.specs.declared.Outcome.{Outcome}
use Rattle.cluster.specs.declared.Refusal.TheVariants as refusal
use Rattle.cluster.specs.declared.Answer.TheVariants as answer
use Rattle.cluster.specs.State.{State, fresh}
use Rattle.cluster.specs.Replies.{ok, no}
use Rattle.cluster.specs.Refusals.{Input}
use Rattle.cluster.specs.Step.{step}
use Rattle.checks.specs.Results.{result_of}
use Rattle.lines.specs.declared.forms.Line.TheVariants as line
use Rattle.lines.specs.Forms.{Meaning, bad, cluster, asked, line_of, data_of, locks_of}
use Rattle.shapes.specs.Shapes.{accepted}
use Rattle.replies.specs.declared.Printed.TheVariants as printed
use Rattle.replies.specs.Texts.{text_of, reply_text}
use Rattle.answers.specs.declared.answer.Held.{Held}
use Rattle.answers.specs.Answers.{after_of, unchanged, cluster_of, holding, scripted, cluster_line, input_of, replied, call_line, answer_to, nothing}

-- ---- a cluster line, and a call: what was lent is the first n bytes

module _ (m y : List ℕ) (n : ℕ) (k : length y ≡ n) where
  pub lent_back : put_mid 0 n m y ≡ write_at 0 y m
  lent_back = let e : n ≡ n - 0 = omega arith in ap (λ (j : ℕ). put_mid 0 j m y) e ∙ mid_write 0 n m y y (omega arith) refl

pub refused_line : (h : Shape) (p : Held) (m tables : List ℕ) → accepted h ≡ false
    → after_of (record { printed = printed.Reply (answer.Declined refusal.OutsideShape); held = p }) m tables ≡ cluster_line h p m tables
refused_line h p m tables e =
    sym (ap (λ (b : Bool). cond b (holding (reply_text (ok [])) h (fresh h) m) (unchanged (reply_text (no 1 [])) p m tables)) e)

-- the records of a fresh cluster are the same whatever its shape
pub blank_start : (h : Shape) (b r : Records) (y z : List ℕ) → b ≡ nothing.records → ◌≡◌ {A = State} (record { records = r; media = y; tables = z }) (fresh h)
    → ◌≡◌ {A = State} (record { records = b; media = y; tables = z }) (fresh h)
unfolding nothing fresh
blank_start h b r y z e f =
    let same : b ≡ r = e ∙ sym (ap (λ (x : State). x.records) f) in
    rw same f

pub accepted_line : (h : Shape) (p : Held) (m tables y z : List ℕ) (n : ℕ) (r : Records) → accepted h ≡ true → length y ≡ n
    → ◌≡◌ {A = State} (record { records = r; media = y; tables = z }) (fresh h)
    → after_of (record { printed = printed.Reply answer.Done; held = record { shape = h; records = r } }) (put_mid 0 n m y) z ≡ cluster_line h p m tables
accepted_line h p m tables y z n r e k f =
    ap (λ (l : List ℕ). after_of (record { printed = printed.Reply answer.Done; held = record { shape = h; records = r } }) l z) (lent_back m y n k)
    ∙ ap (λ (x : State). holding (reply_text (ok [])) h x m) f
    ∙ sym (ap (λ (b : Bool). cond b (holding (reply_text (ok [])) h (fresh h) m) (unchanged (reply_text (no 1 [])) p m tables)) e)

pub early_call : (i : Input) (p : Held) (m tables : List ℕ) → accepted p.shape ≡ false
    → after_of (record { printed = printed.Bad; held = p }) m tables ≡ call_line i p m tables
early_call i p m tables e =
    sym (ap (λ (b : Bool). cond b (replied p.shape (step p.shape (cluster_of p m tables) i) m) (unchanged (text_of printed.Bad) p m tables)) e)

pub made_call : (i : Input) (p : Held) (m tables y z : List ℕ) (n : ℕ) (o : Outcome) → accepted p.shape ≡ true
    → n ≡ p.shape.replicas * medium_size p.shape.places → length y ≡ n
    → result_of o y z ≡ step p.shape (record { records = p.records; media = take n m; tables = tables }) i
    → after_of (record { printed = printed.Reply o.answer; held = record { shape = p.shape; records = o.records } }) (put_mid 0 n m y) z ≡ call_line i p m tables
made_call i p m tables y z n o e s k f =
    ap (λ (l : List ℕ). after_of (record { printed = printed.Reply o.answer; held = record { shape = p.shape; records = o.records } }) l z) (lent_back m y n k)
    ∙ ap (λ r. replied p.shape r m) (f ∙ ap (λ (j : ℕ). step p.shape (record { records = p.records; media = take j m; tables = tables }) i) s)
    ∙ sym (ap (λ (b : Bool). cond b (replied p.shape (step p.shape (cluster_of p m tables) i) m) (unchanged (text_of printed.Bad) p m tables)) e)

-- ---- a line, by what reading it gave

pub bad_line : (w : Meaning) (p : Held) (m tables : List ℕ) → None ≡ line_of w
    → after_of (record { printed = printed.Bad; held = p }) m tables ≡ answer_to w p m tables
unfolding answer_to
bad_line bad p m tables e = refl
bad_line (cluster r n) p m tables e = let z : ◌≡◌ {A = ℕ} 0 1 = cc e in absurd (omega arith)
bad_line (asked c d l) p m tables e = let z : ◌≡◌ {A = ℕ} 0 1 = cc e in absurd (omega arith)

pub cluster_line_lem : (w : Meaning) (p : Held) (m tables : List ℕ) (r n : ℕ) → Some (line.Cluster r n) ≡ line_of w
    → cluster_line (scripted r n) p m tables ≡ answer_to w p m tables
unfolding answer_to
cluster_line_lem bad p m tables r n e = let z : ◌≡◌ {A = ℕ} 0 1 = cc e in absurd (omega arith)
cluster_line_lem (cluster r' n') p m tables r n e =
    let a : r ≡ r' = cc e in
    let b : n ≡ n' = cc e in
    ap₂ (λ (x y : ℕ). cluster_line (scripted x y) p m tables) a b
cluster_line_lem (asked c d l) p m tables r n e = let z : ◌≡◌ {A = ℕ} 0 1 = cc e in absurd (omega arith)

pub first_written : (ds x y : List ℕ) (n : ℕ) → n ≡ length ds → y ≡ write_at 0 ds x → take n y ≡ ds
first_written ds x y n k e = ap₂ take k e ∙ part_write 0 ds x (omega arith)

pub call_line_lem : (w : Meaning) (p : Held) (m tables : List ℕ) (c : Call) (d l : ℕ) (x y u v : List ℕ) → Some (line.Asked c d l) ≡ line_of w
    → y ≡ write_at 0 (data_of w) x → v ≡ write_at 0 (locks_of w) u
    → call_line (input_of c (take d y) (take l v)) p m tables ≡ answer_to w p m tables
unfolding answer_to
call_line_lem bad p m tables c d l x y u v e f g = let z : ◌≡◌ {A = ℕ} 0 1 = cc e in absurd (omega arith)
call_line_lem (cluster r n) p m tables c d l x y u v e f g = let z : ◌≡◌ {A = ℕ} 0 1 = cc e in absurd (omega arith)
call_line_lem (asked c' ds ls) p m tables c d l x y u v e f g =
    let a : c ≡ c' = cc e in
    let b : d ≡ length ds = cc e in
    let k : l ≡ length ls = cc e in
    ap (λ (q : Call). call_line (input_of q (take d y) (take l v)) p m tables) a
    ∙ ap₂ (λ (s t : List ℕ). call_line (input_of c' s t) p m tables) (first_written ds x y d b f) (first_written ls u v l k g)
