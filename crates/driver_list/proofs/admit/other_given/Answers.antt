-- `admit::other_given`: quotient and rest say what the product would (`divided`).
use mathlib.Core.Path.{refl, ap, ◌∙◌}
use mathlib.Core.Bool.{not}
use borrow.Author.Tests.{eq-eqb, ne_eqb}
use Rattle.base.proofs.Tests.{or_yes, or_no}
use Rattle.driver_list.proofs.Declining.{divided}
use Rattle.driver_list.proofs.admit.other_given.Goals as goal

pub returns-then-given-fates : goal.returns-then-given-fates
returns-then-given-fates c =
    let other = ap not (ne_eqb _ _ c.if-given-fates.true) in
    other ∙ divided c.args.fates c.args.given _ (or_yes _ _ other)

pub returns-else-given-fates : goal.returns-else-given-fates
returns-else-given-fates c = divided c.args.fates c.args.given _ (or_no _ _ _ (ap not (eq-eqb _ _ c.if-given-fates.false)) refl)
