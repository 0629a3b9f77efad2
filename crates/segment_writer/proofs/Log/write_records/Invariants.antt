-- `Log::write_records`. The invariant: the records and offsets that are left, written where the code stands, give the whole files.
use mathlib.Core.Path.{◌≡◌}
use Prim.Native.Nat.{◌+◌, ◌*◌}
use Rattle.octets.specs.Octets.{write_at}
use Rattle.storage.specs.Log.{places_from}
use Rattle.segment.specs.Header.{header_size}
use Rattle.segment.specs.Pair.{offset_size, records_of, offsets_from, records_size, data_size}
use Rattle.segment.proofs.Writing.{left}
use Rattle.segment_writer.proofs.Log.write_records.Given as goal

abbrev pub invariant-loop-n : goal.invariant-loop-n
invariant-loop-n l = record {
  whole : l.at + records_size (left l.self.places l.n l.self.medium.now) ≡ data_size (places_from l.self.places 1 l.self.medium.now);
  records : write_at header_size (records_of (places_from l.self.places 1 l.self.medium.now)) l.initial.file ≡ write_at l.at (records_of (left l.self.places l.n l.self.medium.now)) l.file;
  offsets : write_at header_size (offsets_from header_size (places_from l.self.places 1 l.self.medium.now)) l.initial.index ≡ write_at (header_size + offset_size * l.n) (offsets_from l.at (left l.self.places l.n l.self.medium.now)) l.index;
}
