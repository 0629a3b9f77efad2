-- `groups::all_fit`. The invariant: j places fit, and the next begins at a.
use mathlib.Core.Path.{sym, ap, ◌∙◌, subst}
use mathlib.Core.Bool.{Bool, ◌&&◌}
use Prim.Native.Nat.{ℕ, ◌+◌, ◌-◌}
use lib.Dec.{T}
use lib.ListN.{take, drop}
use Rattle.octets.specs.Octets.{part}
use Rattle.octets.proofs.Laws.{between_part}
use Rattle.crc32.specs.Crc32.{checked}
use Rattle.storage.specs.Layout.{check_offset}
use Rattle.storage.specs.Sizes.{place_layout, place_size}
use Rattle.scan.proofs.SideBySide.{fit_next}
use native.Mathlib.Omega.{arith}
use Rattle.scan.proofs.groups.all_fit.Goals as goal

pub loop-j-init : goal.loop-j-init
loop-j-init c = (omega arith, λ i h. absurd (omega arith))

pub returns-then-not-fields_fit : goal.returns-then-not-fields_fit
returns-then-not-fields_fit c = λ e. absurd (subst T (sym e) tt)

pub loop-j-preserved : goal.loop-j-preserved
loop-j-preserved c =
    let x = c.args in
    let l = c.loop-j in
    let p = take (l.a + place_size - l.a) (drop l.a x.s.now) in
    let b = c.if-not-fields_fit.false in
    let f = c.fields_fit.ensures in (
      omega (arith, l.invariant.0),
      fit_next x.n l.j x.s.now p (between_part l.a place_size x.s.now ∙ ap (λ (o : ℕ). part o place_size x.s.now) l.invariant.0)
          (f.0 ∙ ap (λ (t : Bool). t && checked (check_offset place_layout) p) b) (f.1 b).1 l.invariant.1,
    )

pub returns : goal.returns
returns c = λ e j h.
    let l = c.loop-j in
    l.invariant.1 j (omega (arith, c.loop-j-test.false))
