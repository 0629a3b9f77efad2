-- `groups::agreeing`. The invariant: j places are valid, and the check of the next stands at a.
use mathlib.Core.Path.{◌≡◌, sym, ap, ◌∙◌}
use borrow.Author.Tests.{eq-eqb, ne_eqb}
use Prim.Native.Nat.{ℕ, ◌+◌, ◌*◌}
use Rattle.octets.specs.Octets.{part, be_of}
use Rattle.octets.proofs.Laws.{between_part}
use Rattle.lanes.specs.Lanes.{lanes}
use Rattle.storage.specs.Layout.{check_size}
use Rattle.storage.specs.Sizes.{place_size}
use Rattle.scan.proofs.Rows.{turn_start, turn_next, turn_stop, turn_end}
use native.Mathlib.Omega.{arith}
use Rattle.scan.proofs.groups.agreeing.Goals as goal

pub loop-j-init : goal.loop-j-init
loop-j-init c = (omega arith, turn_start lanes c.args.n c.args.s.now)

pub returns-then-check_of-get_be : goal.returns-then-check_of-get_be
returns-then-check_of-get_be c =
    let x = c.args in
    let l = c.loop-j in
    let t = c.loop-j-test.true in
    let k = c.get_be.ensures.0 ∙ ap be_of (between_part l.a check_size x.s.now ∙ ap (λ (o : ℕ). part o check_size x.s.now) l.invariant.0) in
    let v = c.requires.checks l.j t ∙ ne_eqb _ _ (λ e. c.if-check_of-get_be.true (c.check_of.ensures ∙ e ∙ sym k)) in
    sym (l.invariant.1 ∙ turn_stop lanes x.n l.j (place_size * l.j) x.s.now t v)

pub loop-j-preserved : goal.loop-j-preserved
loop-j-preserved c =
    let x = c.args in
    let l = c.loop-j in
    let t = c.loop-j-test.true in
    let k = c.get_be.ensures.0 ∙ ap be_of (between_part l.a check_size x.s.now ∙ ap (λ (o : ℕ). part o check_size x.s.now) l.invariant.0) in
    let v = c.requires.checks l.j t ∙ eq-eqb _ _ (sym c.check_of.ensures ∙ c.if-check_of-get_be.false ∙ k) in
    let o : place_size * l.j + place_size ≡ place_size * (l.j + 1) = omega arith in (
      omega (arith, l.invariant.0),
      rw o at (l.invariant.1 ∙ turn_next lanes x.n l.j (place_size * l.j) x.s.now t v),
    )

pub returns : goal.returns
returns c =
    let x = c.args in
    let l = c.loop-j in
    let e : lanes ≡ l.j = omega arith in
    e ∙ sym (l.invariant.1 ∙ turn_end lanes x.n l.j (place_size * l.j) x.s.now c.loop-j-test.false)
