-- `size_at`, by the cases of `sized`.
use mathlib.Core.Path.{ap, ◌∙◌}
use lib.ListN.{drop, length-drop}
use native.Mathlib.Omega.{arith}
use Rattle.std.specs.Prelude.{Some, ℕ}
use Rattle.storage.specs.Places.{size_of}
use Rattle.segment.proofs.Writing.{size_is}
use Rattle.segment_reader.proofs.RecordTests.{is_sized}
use Rattle.segment_reader.proofs.ReadingRecords.{to_end, not_there, too_long}
use Rattle.segment_reader.proofs.size_at.Goals as goal

pub returns-then-file-at : goal.returns-then-file-at
returns-then-file-at c =
    let a = c.args in
    let s = drop a.at a.file.now in
    rw (not_there s (omega (arith, length-drop a.at a.file.now, c.if-file-at.true)))

pub returns-then-k : goal.returns-then-k
returns-then-k c =
    let a = c.args in
    let s = drop a.at a.file.now in
    rw (too_long s (omega (arith, c.length_field-k.ensures ∙ ap size_of (to_end a.at a.file.now), c.if-k.true)))

pub returns : goal.returns
returns c =
    let a = c.args in
    let s = drop a.at a.file.now in
    let k = c.length_field-k.ensures ∙ ap size_of (to_end a.at a.file.now) in
    rw ((is_sized s).1 (record { inside = omega (arith, length-drop a.at a.file.now, c.if-file-at.false); short = omega (arith, k, c.if-k.false) })) (ap (λ (n : ℕ). Some n) (omega (arith, size_is s, k)))
