-- `forms::issue`: the request, and what lies beside it.
-- Assumes nothing.
use mathlib.Core.Path.{sym, ap, ◌∙◌}
use Prim.Native.Nat.{ℕ}
use Rattle.std.specs.Prelude.{Option}
use Rattle.cluster.specs.declared.Request.{Request}
use Rattle.lines.specs.Forms.{data_then, issue_form, head_then}
use Rattle.lines.proofs.Gives.{gives_as, gives_bad}
use Rattle.lines.proofs.forms.issue.Goals as goal

pub returns-in_err-server : goal.returns-in_err-server
unfolding issue_form
returns-in_err-server c =
    let k = data_then c.args.line.now in
    rw c.from_residual.ensures (gives_bad _ _ _ (sym (c.request.ensures k) ∙ ap (λ (r : Option (ℕ × Request)). head_then r k) c.in_err-server.was))

pub returns : goal.returns
unfolding issue_form
returns c =
    let k = data_then c.args.line.now in
    gives_as _ _ _ _ _ _ _ (sym (c.request.ensures k) ∙ ap (λ (r : Option (ℕ × Request)). head_then r k) c.in_ok-server.was) c.beside.ensures
