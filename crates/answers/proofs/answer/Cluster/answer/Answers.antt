-- `Cluster::answer`: data and locks lie within their buffers.
-- Assumes nothing.
use mathlib.Core.Path.{◌≡◌, sym, ◌∙◌}
use Rattle.std.specs.Prelude.{Some}
use Rattle.lines.specs.declared.forms.Line.TheVariants as line
use Rattle.lines.specs.Forms.{meaning_of}
use Rattle.lines.proofs.Counts.{counted}
use Rattle.answers.proofs.Answers.{bad_line, cluster_line_lem, call_line_lem}
use native.Mathlib.Omega.{arith}
use Rattle.answers.proofs.answer.Cluster.answer.Goals as goal

pub shared_ref_as_front-call_line : goal.shared_ref_as_front-call_line
shared_ref_as_front-call_line c =
    let r = c.read in
    let w = c.in-Some-Asked in
    let e : r.result ≡ Some (line.Asked w.call w.d w.l) = cc in
    let b = counted (meaning_of c.args.line.now) r.result _ _ _ _ _ _ _ e r.ensures in
    omega (arith, b.0)

pub shared_ref_as_front-call_line-in-Some-Asked : goal.shared_ref_as_front-call_line-in-Some-Asked
shared_ref_as_front-call_line-in-Some-Asked c =
    let r = c.read in
    let w = c.in-Some-Asked in
    let e : r.result ≡ Some (line.Asked w.call w.d w.l) = cc in
    let b = counted (meaning_of c.args.line.now) r.result _ _ _ _ _ _ _ e r.ensures in
    omega (arith, b.1)

pub returns-in-None : goal.returns-in-None
returns-in-None c =
    let a = c.args in
    bad_line (meaning_of a.line.now) a.self.now.held a.self.now.media a.self.now.tables (sym c.in-None.is ∙ c.read.ensures.value)

pub returns-in-Some-Cluster : goal.returns-in-Some-Cluster
returns-in-Some-Cluster c =
    let a = c.args in
    let w = c.in-Some-Cluster in
    let e : c.read.result ≡ Some (line.Cluster w.r w.n) = cc in
    c.cluster_line-next.ensures
    ∙ cluster_line_lem (meaning_of a.line.now) a.self.now.held a.self.now.media a.self.now.tables _ _ (sym e ∙ c.read.ensures.value)

pub returns-in-Some-Asked : goal.returns-in-Some-Asked
returns-in-Some-Asked c =
    let a = c.args in
    let r = c.read.ensures in
    let w = c.in-Some-Asked in
    let e : c.read.result ≡ Some (line.Asked w.call w.d w.l) = cc in
    c.call_line-next.ensures
    ∙ call_line_lem (meaning_of a.line.now) a.self.now.held a.self.now.media a.self.now.tables _ _ _ _ _ _ _ (sym e ∙ r.value) r.content_after r.locks_after
