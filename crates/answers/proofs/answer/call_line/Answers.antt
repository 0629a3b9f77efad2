-- `answer::call_line`: a shape that passed is accepted.
-- Assumes nothing.
use mathlib.Core.Path.{sym, ◌∙◌}
use Prim.Native.Nat.{◌-◌}
use native.Mathlib.Omega.{arith}
use Rattle.octets.proofs.Laws.{length_part}
use Rattle.answers.specs.Answers.{input_of}
use Rattle.answers.proofs.Answers.{early_call, made_call}
use Rattle.answers.proofs.answer.call_line.Goals as goal

pub returns-then-not-is_accepted : goal.returns-then-not-is_accepted
returns-then-not-is_accepted c =
    let a = c.args in
    early_call (input_of a.call a.content.now a.locks.now) a.h a.m.now a.tables.now (sym c.is_accepted.ensures ∙ c.if-not-is_accepted.true)

pub size-n-requires : goal.size-n-requires
size-n-requires c = sym c.is_accepted.ensures ∙ c.if-not-is_accepted.false

pub returns : goal.returns
returns c =
    let a = c.args in
    let r = c.apply-o in
    let z = c.size-n in
    let e = sym c.is_accepted.ensures ∙ c.if-not-is_accepted.false in
    let l = r.auto.media ∙ length_part 0 z.result a.m.now (omega (arith, c.requires, z.ensures.upper_bound)) in
    made_call (input_of a.call a.content.now a.locks.now) a.h a.m.now a.tables.now r.new.media r.new.tables z.result r.result e
    z.ensures.value l r.ensures.0
