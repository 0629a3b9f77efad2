-- What an accepted shape says of its numbers.
-- Assumes nothing.
use mathlib.Core.Path.{◌≡◌}
use mathlib.Core.Bool.{true, ◌&&◌, ◌||◌}
use mathlib.Core.Logic.{⊎_elim}
use Prim.Native.Nat.{ℕ, ◌≤◌}
use native.Mathlib.Omega.{arith}
use lib.Dec.{eqb, leb}
use borrow.Author.Tests.{leb-true, eqb-true}
use Rattle.base.proofs.Tests.{both, either}
use Rattle.cluster.specs.declared.Shape.{Shape}
use Rattle.shapes.specs.Shapes.{accepted}

pub record Bounded (h : Shape) : Type 0 where
  pub some_replicas : 1 ≤ h.replicas
  pub replicas : h.replicas ≤ 7
  pub some_places : 1 ≤ h.places
  pub places : h.places ≤ 100

within_seven : (r : ℕ) → (eqb r 1 || eqb r 3 || eqb r 5 || eqb r 7) ≡ true → (1 ≤ r) × (r ≤ 7)
within_seven r e =
    ⊎_elim
    (λ x. ⊎_elim
    (λ y. ⊎_elim (λ z. is 1 (eqb-true r 1 z) (omega arith)) (λ z. is 3 (eqb-true r 3 z) (omega arith)) (either (eqb r 1) (eqb r 3) y))
    (λ y. is 5 (eqb-true r 5 y) (omega arith)) (either (eqb r 1 || eqb r 3) (eqb r 5) x))
    (λ x. is 7 (eqb-true r 7 x) (omega arith)) (either (eqb r 1 || eqb r 3 || eqb r 5) (eqb r 7) e)
  where
    is : (k : ℕ) → r ≡ k → (1 ≤ k) × (k ≤ 7) → (1 ≤ r) × (r ≤ 7)
    is k q b = rw q b

module _ (h : Shape) (e : accepted h ≡ true) where
  pub bounded : Bounded h
  unfolding accepted
  bounded =
      let a = both (leb 1 h.places && leb h.places 100) (eqb h.replicas 1 || eqb h.replicas 3 || eqb h.replicas 5 || eqb h.replicas 7) e in
      let n = both (leb 1 h.places) (leb h.places 100) a.0 in
      let r = within_seven h.replicas a.1 in
      record { some_replicas = r.0; replicas = r.1; some_places = leb-true 1 h.places n.0; places = leb-true h.places 100 n.1 }
