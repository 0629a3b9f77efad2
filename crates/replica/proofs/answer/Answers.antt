-- `replica::answer`: the message is lost (`unmoved`); or it declines (`declining`), or performs; then it is answered, with the mark that is known, or silent
-- (`performing`).
use mathlib.Core.Path.{◌≡◌, sym, ap, ◌∙◌}
use mathlib.Core.Bool.{true, false}
use Prim.Native.Nat.{ℕ}
use Rattle.fate.specs.Fates.{after}
use Rattle.storage.specs.Operations.{writes_of}
use Rattle.replica.specs.Answers.{when_answered}
use Rattle.replica.proofs.Answering.{unmoved, no_err, declining, performing, known_mark, heard_mark, heard_none}
use native.Mathlib.Omega.{arith}
use borrow.Author.Rules.{rules}
use Rattle.replica.proofs.answer.Goals as goal
use Rattle.replica.proofs.answer.Goals.{in-Lost, in_default}

never : {X : Type 0} → false ≡ true → X
never e = cc

pub returns-then-matches : goal.returns-then-matches
returns-then-matches c =
    let a = c.args in
    elim c.match-matches.branch [
      | in-Lost w ↦ rw w.in-Lost.is (unmoved a.places a.session a.recorded a.op a.src.now a.given.now a.m.now)
      | in_default w ↦ let e : false ≡ true = sym w.matches-is ∙ c.if-matches.true in never e
    ]

pub returns-in-Err : goal.returns-in-Err
returns-in-Err c =
    let a = c.args in
    let d = c.read_medium-r.ensures in
    let j = rw c.is_prepare.ensures at c.in-Err.ensures in
    declining c.read_medium-r.result a.places a.m.now d.0 d.1 a.f a.given.now a.session a.recorded a.op a.src.now _
    (sym j.declines) (c.under.ensures ∙ ap (when_answered a.f) (j.says 0))

pub perform-requires : goal.perform-requires
perform-requires c =
    let p = c.requires in
    let d = c.read_medium-r.ensures in record {
      as_read = d.1;
      has_place = rw (← d.0) at p.has_place.0;
    }

pub mark_after-requires : goal.mark_after-requires
mark_after-requires c =
    let a = c.args in
    let p = c.requires in
    let r = c.read_medium-r.result in
    let d = c.read_medium-r.ensures in
    let j = rw c.is_prepare.ensures at c.judged.ensures.declines in
    let n = no_err c.judged.result c.in_default-judged.not-Err in
    let w = c.perform.ensures ∙ ap (λ (n : ℕ). after a.f a.given.now (writes_of n a.src.now a.op a.m.now) a.m.now) d.0 in record {
      m_len = omega (arith, c.perform.auto.m, p.medium.size, d.0);
      mark_known = known_mark r a.places a.m.now d.0 d.1 a.f a.given.now a.session a.recorded a.op a.src.now _ (search rules) p.has_place.0 p.has_place.1
          (sym j ∙ n) w (sym c.answers.ensures ∙ c.if-answers.true);
    }

pub returns-then-answers : goal.returns-then-answers
returns-then-answers c =
    let a = c.args in
    let r = c.read_medium-r.result in
    let d = c.read_medium-r.ensures in
    let j = rw c.is_prepare.ensures at c.judged.ensures.declines in
    let n = no_err c.judged.result c.in_default-judged.not-Err in
    let w = c.perform.ensures ∙ ap (λ (n : ℕ). after a.f a.given.now (writes_of n a.src.now a.op a.m.now) a.m.now) d.0 in
    performing r a.places a.m.now d.0 d.1 a.f a.given.now a.session a.recorded a.op a.src.now _ _
    (sym j ∙ n) w (heard_mark a.f _ _ _ _ (sym c.answers.ensures ∙ c.if-answers.true) d.0 c.mark_after.ensures)

pub returns : goal.returns
returns c =
    let a = c.args in
    let r = c.read_medium-r.result in
    let d = c.read_medium-r.ensures in
    let j = rw c.is_prepare.ensures at c.judged.ensures.declines in
    let n = no_err c.judged.result c.in_default-judged.not-Err in
    let w = c.perform.ensures ∙ ap (λ (n : ℕ). after a.f a.given.now (writes_of n a.src.now a.op a.m.now) a.m.now) d.0 in
    performing r a.places a.m.now d.0 d.1 a.f a.given.now a.session a.recorded a.op a.src.now _ _
    (sym j ∙ n) w (heard_none a.f _ (sym c.answers.ensures ∙ c.if-answers.false))
