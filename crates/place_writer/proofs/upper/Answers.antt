-- `place::upper`: three numbers from the fifth field on, each written behind the one before, are one write (`next_field`).
use mathlib.Core.List.{[], ◌∷◌}
use Prim.Native.Nat.{◌≤◌}
use lib.ListN.{length}
use Rattle.octets.proofs.Numbers.{first_field, next_field}
use native.Mathlib.Omega.{arith}
use Rattle.place_writer.proofs.upper.Goals as goal

pub returns : goal.returns
returns c =
    let f = c.args.f in
    let m = c.args.out.now in
    let h : 20 ≤ length m = omega (arith, c.requires) in
    let e₁ = first_field 20 8 f.sequence m _ c.put_be.ensures in
    let e₂ = next_field ((8, f.sequence) ∷ []) 20 4 f.header m _ _ h e₁ c.put_be-2.ensures in
    next_field ((8, f.sequence) ∷ (4, f.header) ∷ []) 20 4 c.args.n m _ _ h e₂ c.put_be-3.ensures
