-- The media of an accepted shape fit into those lent.
-- Assumes nothing.
use mathlib.Core.Path.{◌≡◌}
use mathlib.Core.Bool.{true}
use Prim.Native.Nat.{◌*◌, ◌≤◌}
use native.Mathlib.Nat.{mul-le-mul_left}
use native.Mathlib.Omega.{arith}
use Rattle.storage.specs.Sizes.{medium_size}
use Rattle.cluster.specs.declared.Shape.{Shape}
use Rattle.shapes.specs.Shapes.{accepted}
use Rattle.shapes.proofs.Bounds.{bounded}
use Rattle.answers.specs.Sizes.{media_limit}

pub media_fit : (h : Shape) → accepted h ≡ true → h.replicas * medium_size h.places ≤ media_limit
media_fit h e =
    let b = bounded h e in
    let s : medium_size h.places ≤ medium_size 100 = omega arith in
    let w : h.replicas * medium_size h.places ≤ h.replicas * medium_size 100 = mul-le-mul_left h.replicas s in
    omega arith
