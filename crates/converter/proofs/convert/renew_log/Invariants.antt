-- `convert::renew_log`. The invariant: what is left of the log, renewed and written where the code stands, gives the whole.
use mathlib.Core.Path.{◌≡◌}
use Prim.Native.Nat.{◌+◌, ◌*◌}
use lib.ListN.{length}
use Rattle.octets.specs.Octets.{write_at}
use Rattle.storage.specs.Sizes.{slots_size, place_size}
use Rattle.old_places.specs.Old.{old_log, old_mark}
use Rattle.converter.specs.Convert.{all_renewed}
use Rattle.converter.proofs.Converting.{left}
use Rattle.converter.proofs.convert.renew_log.Given as goal

abbrev pub invariant-loop-n : goal.invariant-loop-n
invariant-loop-n l = record {
  mark : old_mark l.places l.m ≡ l.n + length (left l.places l.n l.m);
  written : write_at slots_size (all_renewed (old_log l.places l.m)) l.initial.out ≡ write_at (slots_size + place_size * l.n) (all_renewed (left l.places l.n l.m)) l.out;
}
