-- `judge::is_outside`, case by case: N, the medium, the index file.
use mathlib.Core.Path.{◌≡◌, sym, ap, ◌∙◌}
use mathlib.Core.Bool.{not, ◌&&◌, false≢true}
use Prim.Native.Nat.{ℕ}
use lib.Dec.{eqb, leb}
use native.Mathlib.Omega.{arith}
use borrow.Author.Tests.{eqb-true, eqb-false, not-true, not-false}
use Rattle.base.proofs.Tests.{guards}
use Rattle.storage.specs.Sizes.{places_limit}
use Rattle.segment.specs.Pair.{index_size}
use Rattle.import_checks.proofs.ReadingLengths.{offsets_fit, out_of_range, other_medium, by_index}
use Rattle.import_checks.proofs.judge.is_outside.Goals.{then-not-contains, else-not-contains}
use Rattle.import_checks.proofs.judge.is_outside.Goals as goal

pub overflow_mul-result : goal.overflow_mul-result
overflow_mul-result c = omega (arith, c.offsets_in.ensures, offsets_fit c.args.index, c.ranges.index)

pub overflow_add-result : goal.overflow_add-result
overflow_add-result c = omega (arith, c.offsets_in.ensures, offsets_fit c.args.index, c.ranges.index)

pub returns-then-medium-medium_size : goal.returns-then-medium-medium_size
returns-then-medium-medium_size c =
    let a = c.args in
    let inside : c.contains.result ≡ (leb 1 a.places && leb a.places places_limit) = search guards in
    c.if-medium-medium_size.true
    ∙ elim c.if-not-contains.branch [
      | then-not-contains w ↦ out_of_range a.places a.medium a.index (sym inside ∙ w.if-not-contains.true)
      | else-not-contains w ↦
          let other = eqb-false a.medium w.medium_size.result (not-true (eqb a.medium w.medium_size.result) (sym w.value-is ∙ c.if-medium-medium_size.true)) in
          other_medium a.places a.medium a.index (sym inside ∙ w.if-not-contains.false) (λ e. other (e ∙ sym w.medium_size.ensures))
    ]

pub returns-else-medium-medium_size : goal.returns-else-medium-medium_size
returns-else-medium-medium_size c =
    let a = c.args in
    let inside : c.contains.result ≡ (leb 1 a.places && leb a.places places_limit) = search guards in
    ap (λ (k : ℕ). not (eqb a.index (index_size k))) c.offsets_in.ensures
    ∙ elim c.if-not-contains.branch [
      | then-not-contains w ↦ absurd (false≢true (sym c.if-medium-medium_size.false ∙ w.value-is ∙ ap not w.if-not-contains.true))
      | else-not-contains w ↦
          let same = eqb-true a.medium w.medium_size.result (not-false (eqb a.medium w.medium_size.result) (sym w.value-is ∙ c.if-medium-medium_size.false)) in
          by_index a.places a.medium a.index (sym inside ∙ w.if-not-contains.false) (same ∙ w.medium_size.ensures)
    ]
