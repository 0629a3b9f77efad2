-- `Log::write_pair`: each file is its header and what stands behind it (`file_written`).
use mathlib.Core.Path.{◌≡◌, sym, ap, ◌∙◌}
use Prim.Native.Nat.{ℕ, ◌+◌, ◌*◌}
use lib.ListN.{length}
use native.Mathlib.Omega.{arith}
use borrow.Rule.Slice.PartMut.{same_len_mid}
use Rattle.storage.specs.Log.{places_from}
use Rattle.storage.proofs.Scan.{length_places}
use Rattle.octets.proofs.Laws.{length_part}
use Rattle.segment.specs.Header.{header_size}
use Rattle.segment.specs.Pair.{records_of, offsets_from, offset_size, pair_of, records_size}
use Rattle.segment.proofs.Writing.{length_records, length_offsets, file_written}
use Rattle.segment_writer.proofs.Log.write_pair.Goals as goal

pub write_records-requires : goal.write_records-requires
write_records-requires c =
    let a = c.args in
    let p = c.requires in record {
      file_len = same_len_mid 0 header_size a.file.now c.write_header.new.out c.write_header.auto.out ∙ p.file_len;
      index_len = same_len_mid 0 header_size a.index.now c.write_header-2.new.out c.write_header-2.auto.out ∙ p.index_len;
    }

pub returns : goal.returns
unfolding pair_of
returns c =
    let a = c.args in
    let p = c.requires in
    let log = a.self.now in
    let k = log.places in
    let m = log.medium.now in
    let ps = places_from k 1 m in
    let records : length (records_of ps) ≡ records_size ps = length_records k k 1 m log.inside log.sized (omega arith) (omega arith) in
    let offsets : length (offsets_from header_size ps) ≡ offset_size * k = length_offsets header_size ps ∙ ap (λ (n : ℕ). offset_size * n) (length_places k 1 m) in
    let first : length c.write_header.new.out ≡ header_size = c.write_header.auto.out ∙ length_part 0 header_size a.file.now (omega (arith, p.file_len)) in
    let second : length c.write_header-2.new.out ≡ header_size = c.write_header-2.auto.out ∙ length_part 0 header_size a.index.now (omega (arith, p.index_len)) in (
      file_written a.z a.file.now _ (records_of ps) _ first (p.file_len ∙ ap (λ (n : ℕ). header_size + n) (sym records)) c.write_header.ensures c.write_records.ensures.0,
      file_written a.z a.index.now _ (offsets_from header_size ps) _ second (p.index_len ∙ ap (λ (n : ℕ). header_size + n) (sym offsets)) c.write_header-2.ensures c.write_records.ensures.1,
    )
