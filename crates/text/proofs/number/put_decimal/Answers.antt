-- `number::put_decimal`: the kit's digits are the number's text.
-- Assumes nothing.
use mathlib.Core.Path.{◌≡◌, ap, ◌∙◌}
use mathlib.Core.List.{List}
use Prim.Native.Nat.{ℕ, ◌-◌}
use lib.ListN.{length, take, length-take}
use Rattle.octets.specs.Octets.{write_at}
use Rattle.text.proofs.Decimals.{spelled_is, few_digits}
use native.Mathlib.Omega.{arith}
use Rattle.text.proofs.number.put_decimal.Goals as goal

pub put-requires : goal.put-requires
put-requires c =
    let a = c.args in
    let d = c.decimal-n in
    let h = few_digits a.v d.result c.ranges.v.fits d.ensures.len in
    simp length-take (omega arith)

pub returns : goal.returns
returns c =
    let a = c.args in
    let d = c.decimal-n in
    let h = few_digits a.v d.result c.ranges.v.fits d.ensures.len in
    let e = d.ensures.digits ∙ spelled_is 20 d.result a.v h d.ensures.len in
    let q : d.result - 0 ≡ d.result = omega arith in record {
      upper_bound = h;
      value = d.ensures.in_bounds.1 ∙ ap length e;
      out_after = c.put.ensures ∙ ap (λ (l : List ℕ). write_at a.at l a.out.now) (ap (λ (k : ℕ). take k d.new.out) q ∙ e);
    }
