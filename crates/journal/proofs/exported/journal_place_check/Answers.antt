-- `journal_place_check` meets its contract: its tests are the definition's, in its order.
-- Assumes nothing.
use mathlib.Core.Path.{◌≡◌, refl, ap, ◌∙◌}
use mathlib.Core.Bool.{Bool, true, false, ◌&&◌}
use mir.Val.{bool_byte}
use lib.Dec.{eqb, leb}
use lib.ListN.{length}
use Rattle.base.specs.Below.{bit}
use Rattle.base.proofs.Tests.{guards}
use Rattle.storage.specs.Sizes.{place_size}
use Rattle.journal.specs.Exported.{is_place}
use Rattle.journal.proofs.exported.journal_place_check.Goals.{then-bytes-eq-PLACE, else-bytes-eq-PLACE, then-contains, else-contains}
use Rattle.journal.proofs.exported.journal_place_check.Goals as goal

-- a test as a number
number_of : (t : Bool) → bool_byte t ≡ bit t
number_of true = refl
number_of false = refl

pub returns : goal.returns
unfolding is_place
returns c =
    let s = c.args.bytes.now in
    let n = c.args.number in
    let fits : c.if-bytes-eq-PLACE.value ≡ (eqb (length s) place_size && leb 1 n && leb n 1000) =
    elim c.if-bytes-eq-PLACE.branch [
      | then-bytes-eq-PLACE w ↦ search guards
      | else-bytes-eq-PLACE w ↦ search guards
    ] in
    let all : c.if-contains.is_place ≡ is_place s n =
    elim c.if-contains.branch [
      | then-contains w ↦ search guards
      | else-contains w ↦ search guards
    ] in
    c.from.ensures ∙ number_of c.if-contains.is_place ∙ ap bit all
