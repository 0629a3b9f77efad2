-- `fill::fill`. The invariant: the records that are left are fit, and their places, written into the medium as it is, give the whole.
use mathlib.Core.Path.{◌≡◌}
use mathlib.Core.Bool.{false}
use Prim.Native.Nat.{◌+◌, ◌-◌, ◌≤◌}
use lib.ListN.{length, drop}
use Rattle.segment.specs.Header.{header_size}
use Rattle.import_checks.specs.Refusals.{records_unfit}
use Rattle.segment_import.specs.Import.{filled}
use Rattle.segment_import.proofs.fill.fill.Given as goal

abbrev pub invariant-loop-n : goal.invariant-loop-n
invariant-loop-n l = record {
  inside : l.at ≤ length l.file;
  fit : records_unfit (l.n + 1) (l.count - l.n) (drop l.at l.file) ≡ false;
  places : filled 1 l.count (drop header_size l.file) l.initial.m ≡ filled (l.n + 1) (l.count - l.n) (drop l.at l.file) l.m;
}
