-- `judge::judge_pair`. The invariant: what is judged of the whole pair is judged of what is left, with what has failed so far in mind (`ReadingPass`).
use mathlib.Core.Path.{◌≡◌}
use mathlib.Core.Bool.{false}
use Prim.Native.Nat.{◌+◌, ◌*◌, ◌≤◌}
use lib.ListN.{length, drop}
use Rattle.segment.specs.Header.{header_size}
use Rattle.segment.specs.Pair.{offset_size}
use Rattle.segment.specs.Records.{longest_record}
use Rattle.import_checks.proofs.ReadingPass.{judged, now_judged}
use Rattle.import_checks.proofs.judge.judge_pair.Given as goal

abbrev pub invariant-loop-n : goal.invariant-loop-n
invariant-loop-n l =
    (l.at ≤ length l.file + longest_record)
    × (judged false 1 l.count (drop header_size l.index) header_size (drop header_size l.file) ≡ now_judged l.spoilt l.n l.at (header_size + offset_size * l.n) l.count l.index l.file)
