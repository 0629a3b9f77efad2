-- Which cluster lines are accepted. Document 01: "R = 1, 3, 5 or 7", "It takes N up to 100 and answers no 1 above that".
-- Assumes nothing.
use Rattle.std.specs.Prelude.{Bool, ◌&&◌, ◌||◌, eqb, leb}
use Rattle.cluster.specs.declared.Shape.{Shape}

unfoldable pub accepted : Shape → Bool
accepted h = leb 1 h.places && leb h.places 100 && (eqb h.replicas 1 || eqb h.replicas 3 || eqb h.replicas 5 || eqb h.replicas 7)
