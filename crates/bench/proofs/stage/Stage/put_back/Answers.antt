-- `Stage::put_back`: a medium is copied to where one lies.
use Rattle.std.proofs.Common.{arith, rules}
use Rattle.std.proofs.lemmas.List.{length-take-le}
use Rattle.bench.proofs.stage.Stage.put_back.Goals as goal

pub slice_bounds-copy_from_slice-end : goal.slice_bounds-copy_from_slice-end
slice_bounds-copy_from_slice-end c =
    let e = length-take-le 72064 c.args.self.now.media (search rules) in
    omega (arith, e)

pub copy_from_slice-requires : goal.copy_from_slice-requires
copy_from_slice-requires c =
    let e = length-take-le 72064 c.args.self.now.media (search rules) in
    omega (arith, e, c.fits-medium, c.told-medium)
