-- `journal_lock_place` meets its contract: the test on j is the definition's, and `lock_place` gives the places below it.
-- Assumes nothing.
use mathlib.Core.Path.{refl}
use native.Mathlib.Omega.{arith}
use borrow.Author.Tests.{lt-ltb}
use Rattle.base.proofs.Tests.{guards, cond_yes}
use Rattle.journal.specs.Exported.{lock_place}
use Rattle.journal.proofs.exported.journal_lock_place.Goals as goal

pub returns-then-j-gt2 : goal.returns-then-j-gt2
unfolding lock_place
returns-then-j-gt2 c = cond_yes _ _ _ _ (lt-ltb 2 c.args.j (omega arith)) refl

pub returns : goal.returns
unfolding lock_place
returns c = search guards
