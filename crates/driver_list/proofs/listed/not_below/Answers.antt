-- `listed::not_below`: what `any` answers is the definition's test (`not_below_any`).
use Rattle.std.proofs.Common.{leb, rules, tests, ◌∙◌}
use Rattle.std.proofs.lemmas.Iterator.{YieldsList-from_slice}
use Rattle.std.proofs.lemmas.Iterator.Search.{any_from_yields_List}
use Rattle.driver_list.proofs.Turns.{not_below_any}
use Rattle.driver_list.proofs.listed.not_below.Goals as goal

pub returns : goal.returns
returns c =
    let a = c.args in
    any_from_yields_List (leb a.replicas) _ _ _ c.any.ensures.ran (YieldsList-from_slice a.listed.now cc) (λ x b q k. search (rules, tests))
    ∙ not_below_any a.replicas a.listed.now
