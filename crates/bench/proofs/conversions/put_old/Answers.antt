-- `put_old`: what is copied is as long as where it goes.
use Rattle.std.proofs.Common.{arith}
use Rattle.std.proofs.lemmas.List.{length-take-le}
use Rattle.bench.proofs.conversions.put_old.Goals as goal

pub copy_from_slice-requires : goal.copy_from_slice-requires
copy_from_slice-requires c =
    omega (
      arith,
      length-take-le 20 c.args.out.now (omega (arith, c.if-out-ne-OLD_PLACE.false)),
      length-take-le 20 c.args.p.now (omega (arith, c.if-p-ne-PLACE.false)),
    )
