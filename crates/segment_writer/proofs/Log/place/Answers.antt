-- `Log::place`: the place's bytes, where they stand.
use mathlib.Core.Path.{refl, ap, ◌∙◌}
use Prim.Native.Nat.{◌+◌, ◌*◌}
use lib.ListN.{length}
use native.Mathlib.Omega.{arith}
use Rattle.storage.specs.Sizes.{slots_size, place_size}
use Rattle.storage.proofs.Scan.{place_here}
use Rattle.segment.proofs.Writing.{length_place}
use Rattle.segment_writer.proofs.Log.place.Goals as goal

pub returns : goal.returns
returns c =
    let n = c.args.n in
    let log = c.args.self.now in
    let m = log.medium.now in
    let e = place_here n (slots_size + place_size * n) m refl in record {
      value = e;
      size = ap length e ∙ length_place log.places n m c.requires log.inside;
      bound = rw e (log.sized (n + 1) (omega arith) (omega arith));
    }
