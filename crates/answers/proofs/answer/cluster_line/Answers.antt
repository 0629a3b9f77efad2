-- `answer::cluster_line`: a shape that passed is accepted.
-- Assumes nothing.
use mathlib.Core.Path.{sym, ◌∙◌}
use Rattle.shapes.proofs.Bounds.{bounded}
use Rattle.answers.proofs.Answers.{refused_line, blank_start, accepted_line}
use borrow.Author.Rules.{rules}
use Rattle.answers.proofs.answer.cluster_line.Goals as goal

pub returns-then-not-is_accepted : goal.returns-then-not-is_accepted
returns-then-not-is_accepted c =
    let a = c.args in
    refused_line a.shape a.h a.m.now a.tables.now (sym c.is_accepted.ensures ∙ c.if-not-is_accepted.true)

pub size-n-requires : goal.size-n-requires
size-n-requires c = sym c.is_accepted.ensures ∙ c.if-not-is_accepted.false

pub start-requires : goal.start-requires
start-requires c =
    let e = sym c.is_accepted.ensures ∙ c.if-not-is_accepted.false in
    let b = bounded c.args.shape e in
    search rules

pub returns : goal.returns
returns c =
    let a = c.args in
    let r = c.start in
    let e = sym c.is_accepted.ensures ∙ c.if-not-is_accepted.false in
    let y = r.new.m in
    let z = r.new.tables in
    accepted_line a.shape a.h a.m.now a.tables.now y z c.size-n.result a.blank.now.records e (search rules) (blank_start a.shape a.blank.now.records r.result y z a.blank.now.are_fresh r.ensures)
