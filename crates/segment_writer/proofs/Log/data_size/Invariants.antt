-- `Log::data_size`. The invariant: the size so far and that of the records that are left make the whole.
use mathlib.Core.Path.{◌≡◌}
use Prim.Native.Nat.{◌+◌, ◌*◌, ◌≤◌}
use Rattle.storage.specs.Log.{places_from}
use Rattle.segment.specs.Header.{header_size}
use Rattle.segment.specs.Records.{longest_record}
use Rattle.segment.specs.Pair.{records_size, data_size}
use Rattle.segment.proofs.Writing.{left}
use Rattle.segment_writer.proofs.Log.data_size.Given as goal

abbrev pub invariant-loop-n : goal.invariant-loop-n
invariant-loop-n l = record {
  whole : l.size + records_size (left l.self.places l.n l.self.medium.now) ≡ data_size (places_from l.self.places 1 l.self.medium.now);
  bound : l.size ≤ header_size + longest_record * l.n;
}
