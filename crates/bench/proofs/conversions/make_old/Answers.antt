-- `make_old`: the slots are copied to where an old medium's lie.
use Rattle.std.proofs.Common.{arith, rules}
use Rattle.std.proofs.lemmas.List.{length-take-le}
use Rattle.bench.proofs.conversions.make_old.Goals as goal

pub slice_bounds-copy_from_slice-end-2 : goal.slice_bounds-copy_from_slice-end-2
slice_bounds-copy_from_slice-end-2 c =
    omega (arith, length-take-le 64 c.args.out.now (search rules))

pub copy_from_slice-requires : goal.copy_from_slice-requires
copy_from_slice-requires c =
    let e = length-take-le 64 c.args.out.now (search rules) in
    let f = length-take-le 64 c.args.stage.now.media (search rules) in
    omega (arith, e, f)
