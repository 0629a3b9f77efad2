-- Marks of the replicas below R, none above N, as the code meets them.
-- Assumes nothing.
use Rattle.std.specs.Prelude.{ℕ, List, Bool, get_or, leb}
use Rattle.base.specs.Below.{all}
use Rattle.cluster.specs.declared.Shape.{Shape}

unfoldable pub below_fits : Shape → List ℕ → Bool
below_fits h marks = all (λ i. leb (get_or marks i 0) h.places) h.replicas
