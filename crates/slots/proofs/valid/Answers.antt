-- `slot::valid`: length, zeros and CRC are the cases of the layout's form, in the code's order (Layouts).
use mathlib.Core.Path.{◌≡◌, sym, ◌∙◌}
use mathlib.Core.Bool.{true, false}
use borrow.Author.Tests.{ne_eqb}
use Prim.Native.Nat.{zero-le}
use Rattle.octets.specs.Octets.{part, all_zero}
use Rattle.storage.specs.Sizes.{slot_layout}
use Rattle.storage.specs.Slots.{valid_slot}
use Rattle.storage.proofs.Layouts.{bad_length, bad_tail, by_check}
use Rattle.slots.proofs.valid.Goals as goal
use Rattle.slots.proofs.valid.Goals.{then-s-eq-SLOT, else-s-eq-SLOT}

-- both of two tests hold, or the second doesn't, where the first does not either
never : {X : Type 0} → false ≡ true → X
never e = cc

pub returns-then-all_zero : goal.returns-then-all_zero
unfolding valid_slot
returns-then-all_zero c =
    let s = c.args.s.now in
    elim c.if-s-eq-SLOT.branch [
      | then-s-eq-SLOT w ↦
          let z : all_zero (part 24 4 s) ≡ true = sym w.all_zero.ensures ∙ sym w.value-is ∙ c.if-all_zero.true in
          c.check.ensures ∙ sym (by_check slot_layout 0 s w.if-s-eq-SLOT.true zero-le z)
      | else-s-eq-SLOT w ↦ let e : false ≡ true = sym (w.value-is ∙ ne_eqb _ _ w.if-s-eq-SLOT.false) ∙ c.if-all_zero.true in never e
    ]

pub returns-else-all_zero : goal.returns-else-all_zero
unfolding valid_slot
returns-else-all_zero c =
    let s = c.args.s.now in
    elim c.if-s-eq-SLOT.branch [
      | then-s-eq-SLOT w ↦
          let z : all_zero (part 24 4 s) ≡ false = sym w.all_zero.ensures ∙ sym w.value-is ∙ c.if-all_zero.false in
          let b : valid_slot s ≡ false = bad_tail slot_layout 0 s w.if-s-eq-SLOT.true zero-le z in
          c.if-all_zero.false ∙ sym b
      | else-s-eq-SLOT w ↦
          let b : valid_slot s ≡ false = bad_length slot_layout 0 s w.if-s-eq-SLOT.false in
          w.value-is ∙ ne_eqb _ _ w.if-s-eq-SLOT.false ∙ sym b
    ]
