-- `number::decimal`. The invariant: the digits still to come, behind the number so far, give the whole.
-- Assumes nothing.
use mathlib.Core.Path.{◌≡◌, sym, ap, ◌∙◌}
use Prim.Native.Nat.{ℕ, ◌+◌}
use lib.ListN.{length, drop}
use Rattle.std.proofs.Common.{arith}
use Rattle.std.specs.Prelude.{Option, Some}
use Rattle.text.specs.Text.{with_digits}
use Rattle.text.proofs.Digits.{digits_none, digits_next, digits_end, no_digits, digits_are}
use Rattle.text.proofs.number.decimal.Goals as goal

pub returns-then-is_empty : goal.returns-then-is_empty
returns-then-is_empty c = let h : length c.args.s.now ≡ 0 = grind arith in no_digits _ h

pub returns-in_err-n : goal.returns-in_err-n
returns-in_err-n c =
    let s = c.args.s.now in
    let l = c.loop-b in
    let some : length s ≡ 0 → ⊥ = grind arith in
    c.from_residual.ensures ∙ sym (digits_none (drop (l.b-index + 1) s)) ∙ ap (λ (n : Option ℕ). with_digits n (drop (l.b-index + 1) s)) (sym c.in_err-n.was ∙ c.push.ensures)
    ∙ sym (l.invariant ∙ digits_next (Some l.n) s l.b-index c.loop-b-test.true) ∙ digits_are s some

pub loop-b-preserved : goal.loop-b-preserved
loop-b-preserved c =
    let s = c.args.s.now in
    let l = c.loop-b in
    l.invariant ∙ digits_next (Some l.n) s l.b-index c.loop-b-test.true ∙ ap (λ (n : Option ℕ). with_digits n (drop (l.b-index + 1) s)) (sym c.push.ensures ∙ c.in_ok-n.was)

pub returns : goal.returns
returns c =
    let s = c.args.s.now in
    let l = c.loop-b in
    let some : length s ≡ 0 → ⊥ = grind arith in
    sym (l.invariant ∙ digits_end (Some l.n) s l.b-index c.loop-b-test.false) ∙ digits_are s some
