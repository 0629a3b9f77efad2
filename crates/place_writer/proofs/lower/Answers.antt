-- `place::lower`: four numbers from the start, each written behind the one before, are one write (`next_field`).
use mathlib.Core.List.{[], ◌∷◌}
use Prim.Native.Nat.{zero-le}
use Rattle.octets.proofs.Numbers.{first_field, next_field}
use Rattle.place_writer.proofs.lower.Goals as goal

pub returns : goal.returns
returns c =
    let f = c.args.f in
    let m = c.args.out.now in
    let e₁ = first_field 0 8 f.id m _ c.put_be.ensures in
    let e₂ = next_field ((8, f.id) ∷ []) 0 4 f.client m _ _ zero-le e₁ c.put_be-2.ensures in
    let e₃ = next_field ((8, f.id) ∷ (4, f.client) ∷ []) 0 4 f.generation m _ _ zero-le e₂ c.put_be-3.ensures in
    next_field ((8, f.id) ∷ (4, f.client) ∷ (4, f.generation) ∷ []) 0 4 f.partition m _ _ zero-le e₃ c.put_be-4.ensures
