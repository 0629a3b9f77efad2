-- `groups::singly`. The invariant: j places are valid, those from a on are left.
use mathlib.Core.Path.{◌≡◌, sym, ap, ◌∙◌}
use Prim.Native.Nat.{◌+◌}
use Rattle.octets.proofs.Laws.{between_part}
use Rattle.storage.specs.Sizes.{place_size}
use Rattle.storage.specs.Places.{valid_place}
use Rattle.scan.proofs.Rows.{turn_start, turn_next, turn_stop, turn_end}
use native.Mathlib.Omega.{arith}
use Rattle.scan.proofs.groups.singly.Goals as goal

pub loop-j-init : goal.loop-j-init
loop-j-init c = (omega arith, turn_start c.args.count c.args.n c.args.s.now)

pub returns-then-not-valid : goal.returns-then-not-valid
returns-then-not-valid c =
    let x = c.args in
    let l = c.loop-j in
    let v = sym (c.valid.ensures ∙ ap (valid_place (x.n + l.j + 1)) (between_part l.a place_size x.s.now)) ∙ c.if-not-valid.true in
    sym (l.invariant.1 ∙ turn_stop x.count x.n l.j l.a x.s.now c.loop-j-test.true v)

pub loop-j-preserved : goal.loop-j-preserved
loop-j-preserved c =
    let x = c.args in
    let l = c.loop-j in
    let v = sym (c.valid.ensures ∙ ap (valid_place (x.n + l.j + 1)) (between_part l.a place_size x.s.now)) ∙ c.if-not-valid.false in (
      omega (arith, l.invariant.0),
      l.invariant.1 ∙ turn_next x.count x.n l.j l.a x.s.now c.loop-j-test.true v,
    )

pub returns : goal.returns
returns c =
    let x = c.args in
    let l = c.loop-j in
    let e : x.count ≡ l.j = omega arith in
    e ∙ sym (l.invariant.1 ∙ turn_end x.count x.n l.j l.a x.s.now c.loop-j-test.false)
