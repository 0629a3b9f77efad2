-- `old::valid`: each return is one of the cases of a place's validity, in the code's order (storage proofs/PlaceLayouts).
use mathlib.Core.Path.{◌≡◌, sym, ap, ◌∙◌}
use Prim.Native.Nat.{◌≤◌}
use native.Mathlib.Omega.{arith}
use Rattle.octets.specs.Octets.{all_zero}
use Rattle.storage.specs.Layout.{number_in}
use Rattle.storage.specs.Sizes.{data_limit}
use Rattle.storage.specs.Places.{size_as}
use Rattle.old_places.specs.Old.{old_layout, old_valid}
use Rattle.storage.proofs.PlaceLayouts.{bad_id, bad_size, bad_tail, by_check, tail_is}
use Rattle.old_places.proofs.valid.Goals as goal

pub returns-then-get_be-n : goal.returns-then-get_be-n
unfolding old_valid
returns-then-get_be-n c =
    let a = c.args in
    bad_id old_layout a.n a.s.now (λ i. c.if-get_be-n.true (c.get_be.ensures.0 ∙ i))

pub returns-then-size : goal.returns-then-size
unfolding old_valid
returns-then-size c =
    let a = c.args in
    let e : c.get_be-size.result ≡ size_as old_layout a.s.now = c.get_be-size.ensures.0 in
    bad_size old_layout a.n a.s.now c.requires.s_len (omega (arith, e, c.if-size.true))

pub returns-else-all_zero : goal.returns-else-all_zero
unfolding old_valid
returns-else-all_zero c =
    let a = c.args in
    let s = a.s.now in
    let e : c.get_be-size.result ≡ size_as old_layout s = c.get_be-size.ensures.0 in
    let z : size_as old_layout s ≤ data_limit = omega (arith, e, c.if-size.false) in
    c.if-all_zero.false ∙ bad_tail old_layout a.n s c.requires.s_len z (sym (c.all_zero.ensures ∙ ap all_zero (tail_is old_layout c.get_be-size.result s e)) ∙ c.if-all_zero.false)

pub returns-then-all_zero : goal.returns-then-all_zero
unfolding old_valid
returns-then-all_zero c =
    let a = c.args in
    let s = a.s.now in
    let i : number_in old_layout 0 s ≡ a.n = sym c.get_be.ensures.0 ∙ c.if-get_be-n.false in
    let e : c.get_be-size.result ≡ size_as old_layout s = c.get_be-size.ensures.0 in
    let z : size_as old_layout s ≤ data_limit = omega (arith, e, c.if-size.false) in
    let t = sym (c.all_zero.ensures ∙ ap all_zero (tail_is old_layout c.get_be-size.result s e)) ∙ c.if-all_zero.true in
    c.check.ensures ∙ by_check old_layout a.n s c.requires.s_len z i t
