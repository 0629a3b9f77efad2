-- `judge::is_unready`, case by case: both headers against the one that export would write, the medium's places, the number of offsets.
use mathlib.Core.Path.{sym, ap, ◌∙◌}
use mathlib.Core.Bool.{not, false≢true}
use mathlib.Core.List.{List}
use Prim.Native.Nat.{ℕ}
use native.Mathlib.Omega.{arith}
use lib.ListN.{take}
use borrow.Author.Tests.{not-true, not-false}
use Rattle.octets.specs.Octets.{all_zero}
use Rattle.storage.specs.Sizes.{slots_size}
use Rattle.segment.specs.Header.{header_size}
use Rattle.segment.specs.Pair.{Files}
use Rattle.import_checks.specs.Refusals.{same_bytes, other_header}
use Rattle.import_checks.proofs.ReadingHeaders.{starts_same, other_data, other_index, not_wiped, by_count}
use Rattle.segment_reader.proofs.ReadingRecords.{to_end}
use Rattle.import_checks.proofs.judge.is_unready.Goals.{then-not-starts_with, else-not-starts_with, then-not-starts_with-2, else-not-starts_with-2}
use Rattle.import_checks.proofs.judge.is_unready.Goals as goal

pub returns-then-not-all_zero : goal.returns-then-not-all_zero
unfolding other_header
returns-then-not-all_zero c =
    let a = c.args in
    let h = c.write_header.new.out in
    let f : Files = record { data_file = a.file.now; index_file = a.index.now } in
    let compared = λ (s : List ℕ). ap (λ (h : List ℕ). not (same_bytes (take header_size s) h)) c.write_header.ensures in
    let first = ap not (starts_same c.starts_with.result a.file.now h c.write_header.auto.out c.starts_with.ensures.value) ∙ compared a.file.now in (
      c.if-not-all_zero.true
          ∙ elim c.if-not-starts_with-2.branch [
            | then-not-starts_with-2 u ↦ elim c.if-not-starts_with.branch [
              | then-not-starts_with w ↦ other_data a.places a.m.now a.z f (sym first ∙ ap not w.if-not-starts_with.true)
              | else-not-starts_with w ↦
                  let second = ap not (starts_same w.starts_with-else-not-starts_with.result a.index.now h c.write_header.auto.out w.starts_with-else-not-starts_with.ensures.value) ∙ compared a.index.now in
                  other_index a.places a.m.now a.z f (sym first ∙ ap not w.if-not-starts_with.false) (sym second ∙ sym w.value-is ∙ u.if-not-starts_with-2.true)
            ]
            | else-not-starts_with-2 u ↦ elim c.if-not-starts_with.branch [
              | then-not-starts_with w ↦ absurd (false≢true (sym u.if-not-starts_with-2.false ∙ w.value-is ∙ ap not w.if-not-starts_with.true))
              | else-not-starts_with w ↦
                  let second = ap not (starts_same w.starts_with-else-not-starts_with.result a.index.now h c.write_header.auto.out w.starts_with-else-not-starts_with.ensures.value) ∙ compared a.index.now in
                  let some = not-true u.all_zero.result (sym u.value-is ∙ c.if-not-all_zero.true) in
                  not_wiped a.places a.m.now a.z f (sym first ∙ ap not w.if-not-starts_with.false) (sym second ∙ sym w.value-is ∙ u.if-not-starts_with-2.false) (sym (u.all_zero.ensures ∙ ap all_zero (to_end slots_size a.m.now)) ∙ some)
            ]
          ],
      λ e. absurd (false≢true (sym e ∙ c.if-not-all_zero.true)),
    )

pub returns-else-not-all_zero : goal.returns-else-not-all_zero
unfolding other_header
returns-else-not-all_zero c =
    let a = c.args in
    let h = c.write_header.new.out in
    let f : Files = record { data_file = a.file.now; index_file = a.index.now } in
    let compared = λ (s : List ℕ). ap (λ (h : List ℕ). not (same_bytes (take header_size s) h)) c.write_header.ensures in
    let first = ap not (starts_same c.starts_with.result a.file.now h c.write_header.auto.out c.starts_with.ensures.value) ∙ compared a.file.now in
    elim c.if-not-starts_with-2.branch [
      | then-not-starts_with-2 u ↦ absurd (false≢true (sym c.if-not-all_zero.false ∙ u.value-is ∙ u.if-not-starts_with-2.true))
      | else-not-starts_with-2 u ↦ elim c.if-not-starts_with.branch [
        | then-not-starts_with w ↦ absurd (false≢true (sym u.if-not-starts_with-2.false ∙ w.value-is ∙ ap not w.if-not-starts_with.true))
        | else-not-starts_with w ↦
            let second = ap not (starts_same w.starts_with-else-not-starts_with.result a.index.now h c.write_header.auto.out w.starts_with-else-not-starts_with.ensures.value) ∙ compared a.index.now in
            let none = not-false u.all_zero.result (sym u.value-is ∙ c.if-not-all_zero.false) in (
              by_count a.places a.m.now a.z f (sym first ∙ ap not w.if-not-starts_with.false) (sym second ∙ sym w.value-is ∙ u.if-not-starts_with-2.false) _ (sym (u.all_zero.ensures ∙ ap all_zero (to_end slots_size a.m.now)) ∙ none) c.offsets_in.ensures,
              λ e. omega (arith, c.starts_with.ensures.bound w.if-not-starts_with.false, c.write_header.auto.out),
            )
      ]
    ]
