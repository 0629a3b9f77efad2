-- `lanes::abreast`. The invariant: the lanes below j have made their step, and a is where lane j's begins.
-- Assumes nothing.
use mathlib.Core.Path.{◌≡◌, refl, ap, ◌∙◌}
use mathlib.Core.List.{List}
use Prim.Native.Nat.{ℕ}
use lib.ListN.{get_or}
use Rattle.octets.specs.Octets.{part}
use Rattle.crc32.specs.Crc32.{crc_from}
use Rattle.base.specs.Below.{up_to}
use Rattle.base.proofs.Below.{up_to_step, up_to_at}
use Rattle.lanes.specs.Lanes.{lanes, width}
use Rattle.lanes.proofs.Steps.{within}
use native.Mathlib.Omega.{arith}
use Rattle.lanes.proofs.abreast.Goals as goal

pub loop-j-init : goal.loop-j-init
unfolding up_to
loop-j-init c = (omega arith, refl)

pub step-requires : goal.step-requires
step-requires c =
    let a = c.args in
    let l = c.loop-j in record {
      wide_in_bounds = omega (arith, within a.size l.j c.loop-j-test.true, l.invariant.0, c.requires);
    }

pub overflow_add-a : goal.overflow_add-a
overflow_add-a c =
    let a = c.args in
    let l = c.loop-j in
    omega (arith, within a.size l.j c.loop-j-test.true, l.invariant.0, c.requires)

pub loop-j-preserved : goal.loop-j-preserved
loop-j-preserved c =
    let a = c.args in
    let l = c.loop-j in (
      omega (arith, l.invariant.0),
      up_to_step _ _ _ _ _ l.invariant.1 (c.step.ensures ∙ ap (λ (o : ℕ). crc_from (get_or a.before l.j 0) (part o (width a.wide) a.s.now)) l.invariant.0),
    )

pub returns : goal.returns
returns c = λ j h.
    let l = c.loop-j in
    let e : l.j ≡ lanes = omega arith in
    ap (λ (r : List ℕ). get_or r j 0) l.invariant.1 ∙ up_to_at _ _ l.j j 0 (omega arith) (omega arith)
