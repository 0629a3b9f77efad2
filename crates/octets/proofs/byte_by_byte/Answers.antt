-- `octets::byte_by_byte`. The invariant: v and the bytes that are still to come give the number, and v has as many bytes as were read, so it fits 64 bits.
use mathlib.Core.Path.{sym, ◌∙◌}
use lib.ListN.{length, get_or}
use Rattle.octets.specs.Octets.{be_of}
use Rattle.octets.proofs.Lists.{be_next, be_end, be_fits, be_room}
use native.Mathlib.Omega.{arith}
use Rattle.octets.proofs.byte_by_byte.Goals as goal

pub overflow_mul-v : goal.overflow_mul-v
overflow_mul-v c = omega (arith, be_room c.loop-b.v c.loop-b.b-index 7 c.loop-b.invariant.0 (omega arith))

pub overflow_add-v : goal.overflow_add-v
overflow_add-v c = omega (arith, be_room c.loop-b.v c.loop-b.b-index 7 c.loop-b.invariant.0 (omega arith), c.type_inv.s c.loop-b.b-index)

pub loop-b-preserved : goal.loop-b-preserved
loop-b-preserved c =
    let l = c.loop-b in
    let h = c.loop-b-test.true in
    rw c.from.ensures (be_fits l.v (get_or c.args.s.now l.b-index 0) l.b-index l.invariant.0 (c.type_inv.s l.b-index).fits, l.invariant.1 ∙ be_next l.v c.args.s.now l.b-index h)

pub returns : goal.returns
unfolding be_of
returns c =
    let l = c.loop-b in
    (sym (l.invariant.1 ∙ be_end _ _ l.b-index c.loop-b-test.false), be_room l.v l.b-index (length c.args.s.now) l.invariant.0 l.auto.b-index-end)
