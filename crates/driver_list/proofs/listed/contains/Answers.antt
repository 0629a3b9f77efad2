-- `listed::contains`: what the library's method answers is the definition's test (`contains_any`).
use Rattle.std.proofs.Common.{◌∙◌}
use Rattle.driver_list.proofs.Turns.{contains_any}
use Rattle.driver_list.proofs.listed.contains.Goals as goal

pub returns : goal.returns
returns c = c.contains.ensures.value ∙ contains_any c.args.listed.now c.args.i
