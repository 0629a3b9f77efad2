-- `fates::given_at`: zeros behind the list, and within it the part that starts at the offset, copied out.
use mathlib.Core.Path.{◌∙◌}
use Prim.Native.Nat.{◌*◌}
use Rattle.storage.specs.Sizes.{place_size}
use borrow.Author.Tests.{lt-ltb, le-ltb}
use Rattle.octets.proofs.Laws.{between_part}
use Rattle.driver_calls.proofs.fates.given_at.Goals as goal

pub returns-then-i-fates : goal.returns-then-i-fates
returns-then-i-fates c =
    let a = c.args in
    rw (lt-ltb _ _ c.if-i-fates.true) (c.copy_from_slice.ensures.after ∙ between_part (a.k * place_size) place_size a.given.now)

pub returns-else-i-fates : goal.returns-else-i-fates
returns-else-i-fates c = rw (le-ltb _ _ c.if-i-fates.false)
