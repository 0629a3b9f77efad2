-- How many calls were made: as many as are played.
-- Assumes nothing.
use mathlib.Core.Path.{◌≡◌, refl, ◌∙◌}
use mathlib.Core.List.{List, [], ◌∷◌, ◌++◌}
use Prim.Native.Nat.{◌+◌, ◌≤◌}
use native.Mathlib.Omega.{arith}
use lib.ListN.{length}
use Rattle.cluster.specs.declared.Shape.{Shape}
use Rattle.cluster.specs.Refusals.{Input}
use Rattle.recovery.specs.Recovery.{Trail, one, played}

pub played_count : (h : Shape) (t : Trail) (ps : List Input) → (played h t ps).count ≡ t.count + length ps
unfolding played
played_count h t [] = omega arith
played_count h t (p ∷ ps) = played_count h (one h t p) ps ∙ omega arith

pub played_join : (h : Shape) (t : Trail) (ps qs : List Input) → played h t (ps ++ qs) ≡ played h (played h t ps) qs
unfolding played
played_join h t [] qs = refl
played_join h t (p ∷ ps) qs = played_join h (one h t p) ps qs

-- one more is not fewer
pub played_more : (h : Shape) (t : Trail) (ps : List Input) → t.count ≤ (played h t ps).count
played_more h t ps = omega (arith, played_count h t ps)
