-- `record::write_record`: the place's numbers, the data check, the data and the record's check, each behind the one before (`record_written`).
use mathlib.Core.Path.{◌≡◌, ap, ◌∙◌}
use mathlib.Core.List.{List}
use Prim.Native.Nat.{ℕ, ◌+◌, ◌-◌}
use lib.ListN.{take, drop}
use native.Mathlib.Omega.{arith}
use Rattle.octets.specs.Octets.{part, write_at, be_bytes}
use Rattle.octets.proofs.Bytes.{bytes_known}
use Rattle.octets.proofs.Laws.{between_part, length_part}
use Rattle.crc32.specs.Crc32.{crc_of}
use Rattle.storage.specs.Places.{size_of, data_of}
use Rattle.segment.specs.Records.{record_size, numbers_size, content_offset}
use Rattle.segment.proofs.Written.{record_written}
use borrow.Author.Rules.{rules}
use Rattle.segment.proofs.record.write_record.Goals as goal

pub put-requires : goal.put-requires
unfolding record_size
put-requires c = omega (arith, length_part 0 numbers_size c.args.p.now (omega (arith, c.requires)), c.requires.p_len, c.requires.p_bound, c.requires.out_len)

pub put_be-requires : goal.put_be-requires
unfolding record_size
put_be-requires c = search rules

pub put-requires-2 : goal.put-requires-2
unfolding record_size
put-requires-2 c = omega (arith, length_part numbers_size c.data_length.result c.args.p.now (omega (arith, c.requires, c.data_length.ensures)), c.requires.p_len, c.requires.p_bound, c.requires.out_len, c.data_length.ensures)

pub seal-requires : goal.seal-requires
unfolding record_size
seal-requires c = search rules

pub returns : goal.returns
unfolding data_of size_of
returns c =
    let a = c.args in
    let p = a.p.now in
    let q = c.requires in
    let r = c.data_length.result in
    let size : r ≡ size_of p = c.data_length.ensures in
    let same : take (numbers_size + r - numbers_size) (drop numbers_size p) ≡ data_of p = between_part numbers_size r p ∙ ap (λ (k : ℕ). part numbers_size k p) size in
    let end : 4 + (numbers_size + r) ≡ content_offset + size_of p = omega (arith, size) in
    record_written p a.out.now _ _ _ _ (bytes_known p (search rules)) q.p_len q.p_bound q.out_len
    c.put.ensures
    (c.put_be.ensures ∙ ap (λ (v : ℕ). write_at numbers_size (be_bytes 4 v) c.put.new.m) (c.crc-sum.ensures ∙ ap crc_of same))
    (c.put-2.ensures ∙ ap (λ (d : List ℕ). write_at content_offset d c.put_be.new.m) same)
    (c.seal.ensures ∙ ap (λ (k : ℕ). write_at k (be_bytes 4 (crc_of (take k c.put-2.new.m))) c.put-2.new.m) end)
