-- `is_record`, by the cases of its tests: cut short, misnumbered, the data's check, the record's.
use mathlib.Core.Path.{◌≡◌, sym, ap, ap₂, ◌∙◌}
use mathlib.Core.Bool.{false≢true}
use Prim.Native.Nat.{ℕ, ◌+◌}
use lib.ListN.{length, take}
use native.Mathlib.Omega.{arith}
use borrow.Author.Tests.{lt-leb, eqb-true, eqb-false}
use Rattle.octets.specs.Octets.{part}
use Rattle.octets.proofs.Laws.{between_part}
use Rattle.crc32.specs.Crc32.{crc_of, checked}
use Rattle.storage.specs.Places.{id_of, size_of}
use Rattle.segment.specs.Records.{record_size, check_in, content_in, content_offset, least_record}
use Rattle.segment.proofs.Writing.{size_is}
use Rattle.segment_reader.proofs.ReadingRecords.{cut_short, misnumbered, spoilt_data, by_check}
use Rattle.segment_reader.proofs.is_record.Goals.{then-size-s, else-size-s, then-get_be-n, else-get_be-n}
use Rattle.segment_reader.proofs.is_record.Goals as goal

-- only the record's check is left
pub returns-then-from-get_be : goal.returns-then-from-get_be
unfolding id_of check_in content_in
returns-then-from-get_be c =
    let s = c.args.s.now in
    let k = c.length_field-k.result in
    let size : k ≡ size_of s = c.length_field-k.ensures in
    elim c.if-get_be-n.branch [
      | then-get_be-n w ↦ elim c.if-size-s.branch [
        | then-size-s v ↦
            let sum : w.crc.result ≡ crc_of (content_in s) = w.crc.ensures ∙ ap crc_of (between_part content_offset k s ∙ ap (λ (j : ℕ). part content_offset j s) size) in
            let number = eqb-true v.get_be.result c.args.n (sym v.value-is ∙ w.if-get_be-n.true) in
            let same = eqb-true w.from.result w.get_be-then-get_be-n.result (sym w.value-is ∙ c.if-from-get_be.true) in
            let whole : least_record + k ≡ record_size s = omega (arith, size, size_is s) in
            c.check.ensures
            ∙ ap₂ (λ (i j : ℕ). checked (content_offset + i) (take j s)) size whole
            ∙ by_check c.args.n s c.requires.s_bound (omega (arith, size, size_is s, v.if-size-s.true)) (sym v.get_be.ensures.0 ∙ number) (sym sum ∙ sym w.from.ensures ∙ same ∙ w.get_be-then-get_be-n.ensures.0)
        | else-size-s v ↦ absurd (false≢true (sym (lt-leb (least_record + k) (length s) v.if-size-s.false) ∙ sym v.value-is ∙ w.if-get_be-n.true))
      ]
      | else-get_be-n w ↦ absurd (false≢true (sym w.if-get_be-n.false ∙ sym w.value-is ∙ c.if-from-get_be.true))
    ]

-- a test before the record's check fails
pub returns-else-from-get_be : goal.returns-else-from-get_be
unfolding id_of check_in content_in
returns-else-from-get_be c =
    let s = c.args.s.now in
    let n = c.args.n in
    let p = c.requires in
    let k = c.length_field-k.result in
    let size : k ≡ size_of s = c.length_field-k.ensures in
    c.if-from-get_be.false ∙
    elim c.if-get_be-n.branch [
      | then-get_be-n w ↦ elim c.if-size-s.branch [
        | then-size-s v ↦
            let sum : w.crc.result ≡ crc_of (content_in s) = w.crc.ensures ∙ ap crc_of (between_part content_offset k s ∙ ap (λ (j : ℕ). part content_offset j s) size) in
            let number = eqb-true v.get_be.result n (sym v.value-is ∙ w.if-get_be-n.true) in
            let other = eqb-false w.from.result w.get_be-then-get_be-n.result (sym w.value-is ∙ c.if-from-get_be.false) in
            spoilt_data n s p.s_bound (sym v.get_be.ensures.0 ∙ number) (λ e. other (w.from.ensures ∙ sum ∙ e ∙ sym w.get_be-then-get_be-n.ensures.0))
        | else-size-s v ↦ absurd (false≢true (sym (lt-leb (least_record + k) (length s) v.if-size-s.false) ∙ sym v.value-is ∙ w.if-get_be-n.true))
      ]
      | else-get_be-n w ↦ elim c.if-size-s.branch [
        | then-size-s v ↦ misnumbered n s p.s_bound (λ e. eqb-false v.get_be.result n (sym v.value-is ∙ w.if-get_be-n.false) (v.get_be.ensures.0 ∙ e))
        | else-size-s v ↦ cut_short n s p.s_bound (omega (arith, size_is s, size, v.if-size-s.false))
      ]
    ]
