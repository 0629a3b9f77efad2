-- `register_after`: without arrival or with another session it stays; else the entries are the definition's (`entries_are`).
use mathlib.Core.Path.{sym, ◌∙◌}
use borrow.Author.Tests.{eq-eqb, ne_eqb}
use Rattle.cluster.specs.Effects.{opened_register}
use Rattle.ballot.proofs.Counting.{entries_are}
use Rattle.open_effect.proofs.register_after.Goals as goal
use Rattle.open_effect.proofs.register_after.Goals.{then-not-does_arrive-via-then-not-does_arrive, then-not-does_arrive-via-else-not-does_arrive+then-g-b}

pub returns-then-not-does_arrive : goal.returns-then-not-does_arrive
returns-then-not-does_arrive c =
    elim c.then-not-does_arrive.branch [
      | then-not-does_arrive-via-then-not-does_arrive w ↦ rw (sym c.does_arrive.ensures ∙ w.if-not-does_arrive.true)
      | then-not-does_arrive-via-else-not-does_arrive+then-g-b w ↦
          rw (sym c.does_arrive.ensures ∙ w.if-not-does_arrive.false, ne_eqb c.args.g.session c.args.b.now.server.now.session w.if-g-b.true)
    ]

pub returns : goal.returns
unfolding opened_register
returns c =
    let a = c.args in
    let b = a.b.now in
    rw (
      sym c.does_arrive.ensures ∙ c.if-not-does_arrive.false,
      eq-eqb a.g.session b.server.now.session c.if-g-b.false,
      c.entries_after-entries.ensures ∙ entries_are b.server.now b.mark b.replicas b.clean b.within b.are_clean a.g,
    )
