-- What a passed refusal 1 says of sizes, and that the product of R and a medium's size fits.
-- Assumes nothing.
use mathlib.Core.Path.{◌≡◌}
use mathlib.Core.Bool.{true, false}
use Prim.Native.Nat.{ℕ, ◌*◌, ◌≤◌, ◌<◌, ◌^◌}
use native.Mathlib.Nat.{mul-le-mul}
use native.Mathlib.Omega.{arith}
use Rattle.std.proofs.lemmas.Bool.Decides.{nat_tests}
use Rattle.storage.specs.Sizes.{medium_size}
use Rattle.cluster.specs.declared.Shape.{Shape}
use Rattle.cluster.specs.Refusals.{replicas_fit, outside}

pub replicas_le : (r : ℕ) → replicas_fit r ≡ true → r ≤ 7
unfolding replicas_fit
replicas_le r h = grind (arith, nat_tests)

pub media_fit : (r n : ℕ) → r ≤ 7 → n ≤ 1000 → r * medium_size n < 2 ^ 64
media_fit r n hr hn =
    let p : r * medium_size n ≤ 7 * 72064 = mul-le-mul {n₂ = 7} {m₂ = 72064} hr (omega arith) in
    omega arith

-- what a passed refusal 1 says
pub record Within (h : Shape) (m t : ℕ) : Type 0 where
  pub replicas : h.replicas ≤ 7
  pub least : 1 ≤ h.places
  pub most : h.places ≤ 1000
  pub media : m ≡ h.replicas * medium_size h.places
  pub tables : t ≡ 4096

pub within : (h : Shape) (media tables : ℕ) → outside h media tables ≡ false → Within h media tables
unfolding outside
within h media tables e =
    record {
      replicas = grind (arith, nat_tests, replicas_le);
      least = grind (arith, nat_tests);
      most = grind (arith, nat_tests);
      media = grind (arith, nat_tests);
      tables = grind (arith, nat_tests);
    }

pub in_replicas : (h : Shape) (media tables : ℕ) → outside h media tables ≡ false → h.replicas ≤ 7
in_replicas h media tables e = (within h media tables e).replicas
