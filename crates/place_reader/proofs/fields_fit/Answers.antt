-- `place::fields_fit`: each return is one of the cases of a place's validity, in the code's order (PlaceCases).
use mathlib.Core.Path.{◌≡◌, sym, ap, ◌∙◌, subst}
use mathlib.Core.Bool.{Bool, true, false, ◌&&◌}
use Prim.Native.Nat.{◌≤◌}
use lib.Dec.{T}
use lib.ListN.{length}
use Rattle.octets.specs.Octets.{all_zero}
use Rattle.crc32.specs.Crc32.{checked}
use Rattle.storage.specs.Layout.{check_offset}
use Rattle.storage.specs.Sizes.{place_layout, place_size, data_limit}
use Rattle.storage.specs.Places.{id_of, size_of}
use Rattle.storage.proofs.PlaceCases.{bad_length, bad_id, bad_size, bad_tail, by_zeros, tail_is}
use native.Mathlib.Omega.{arith}
use Rattle.place_reader.proofs.fields_fit.Goals as goal

never : {X : Type 0} → false ≡ true → X
never e = absurd (subst T (sym e) tt)

pub returns-then-s-ne-PLACE : goal.returns-then-s-ne-PLACE
returns-then-s-ne-PLACE c = (sym (bad_length _ _ c.if-s-ne-PLACE.true), λ e. never e)

pub returns-then-get_be-n : goal.returns-then-get_be-n
unfolding id_of
returns-then-get_be-n c =
    let n = c.args.n in
    let s = c.args.s.now in
    (sym (bad_id n s (λ i. c.if-get_be-n.true (c.get_be.ensures.0 ∙ i))), λ e. never e)

pub returns-then-size : goal.returns-then-size
unfolding size_of
returns-then-size c =
    let n = c.args.n in
    let s = c.args.s.now in
    let e : c.get_be-size.result ≡ size_of s = c.get_be-size.ensures.0 in
    (sym (bad_size n s c.if-s-ne-PLACE.false (omega (arith, e, c.if-size.true))), λ f. never f)

pub returns-else-all_zero : goal.returns-else-all_zero
unfolding id_of size_of
returns-else-all_zero c =
    let n = c.args.n in
    let s = c.args.s.now in
    let l : length s ≡ place_size = c.if-s-ne-PLACE.false in
    let i : id_of s ≡ n = sym c.get_be.ensures.0 ∙ c.if-get_be-n.false in
    let e : c.get_be-size.result ≡ size_of s = c.get_be-size.ensures.0 in
    let z : size_of s ≤ data_limit = omega (arith, e, c.if-size.false) in
    let tail = c.all_zero.ensures ∙ ap all_zero (tail_is c.get_be-size.result s e) in
    rw c.if-all_zero.false (sym (bad_tail n s l z i (sym tail ∙ c.if-all_zero.false)), λ f. never f)

pub returns-then-all_zero : goal.returns-then-all_zero
unfolding id_of size_of
returns-then-all_zero c =
    let n = c.args.n in
    let s = c.args.s.now in
    let l : length s ≡ place_size = c.if-s-ne-PLACE.false in
    let i : id_of s ≡ n = sym c.get_be.ensures.0 ∙ c.if-get_be-n.false in
    let e : c.get_be-size.result ≡ size_of s = c.get_be-size.ensures.0 in
    let z : size_of s ≤ data_limit = omega (arith, e, c.if-size.false) in
    let tail = c.all_zero.ensures ∙ ap all_zero (tail_is c.get_be-size.result s e) in
    (by_zeros n s l z i (sym tail ∙ c.if-all_zero.true) ∙ ap (λ (b : Bool). b && checked (check_offset place_layout) s) (sym c.all_zero-then-all_zero.ensures), λ f. (l, i))
