-- `convert::convert`: the lengths, the slots; what passes is written, and what is declined leaves the second slice.
use mathlib.Core.Path.{sym, ◌∙◌}
use lib.ListN.{length}
use native.Mathlib.Omega.{arith}
use Rattle.converter.proofs.Verdicts.{lengths_are, bad_lengths, bad_slots, passes, stays, becomes}
use Rattle.converter.proofs.convert.convert.Goals as goal

pub returns-then-not-are_lengths_of : goal.returns-then-not-are_lengths_of
returns-then-not-are_lengths_of c =
    let a = c.args in
    let v = bad_lengths a.before.now a.after.now _ c.places_of-n.ensures (sym c.are_lengths_of.ensures ∙ c.if-not-are_lengths_of.true) in
    (v, stays a.before.now a.after.now 27 v)

pub has_slot-requires : goal.has_slot-requires
has_slot-requires c =
    let a = c.args in
    let l = lengths_are c.places_of-n.result (length a.before.now) (length a.after.now) (sym c.are_lengths_of.ensures ∙ c.if-not-are_lengths_of.false) in record {
      slots_size_in_bounds = omega (arith, l.before);
    }

pub returns-then-not-has_slot : goal.returns-then-not-has_slot
returns-then-not-has_slot c =
    let a = c.args in
    let h = sym c.are_lengths_of.ensures ∙ c.if-not-are_lengths_of.false in
    let v = bad_slots a.before.now a.after.now _ c.places_of-n.ensures h (sym c.has_slot.ensures ∙ c.if-not-has_slot.true) in
    (v, stays a.before.now a.after.now 27 v)

pub write_new-requires : goal.write_new-requires
write_new-requires c =
    let a = c.args in
    let l = lengths_are _ (length a.before.now) (length a.after.now) (sym c.are_lengths_of.ensures ∙ c.if-not-are_lengths_of.false) in record {
      m_len = l.before;
      out_len = l.after;
    }

pub returns : goal.returns
returns c =
    let a = c.args in
    let n = c.places_of-n.ensures in
    let h = sym c.are_lengths_of.ensures ∙ c.if-not-are_lengths_of.false in
    let v = passes a.before.now a.after.now _ n h (sym c.has_slot.ensures ∙ c.if-not-has_slot.false) in
    (v, becomes a.before.now a.after.now _ _ n v c.write_new.ensures)
