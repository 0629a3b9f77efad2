-- `Log::write_records`. The invariant: the records and offsets that are left, written where the code stands, give the whole files.
use mathlib.Core.Path.{◌≡◌, sym, ap, ◌∙◌}
use mathlib.Core.List.{List}
use Prim.Native.Nat.{ℕ, ◌+◌, ◌*◌}
use native.Mathlib.Omega.{arith}
use Rattle.octets.specs.Octets.{write_at}
use Rattle.octets.proofs.Laws.{length_between}
use Rattle.storage.specs.Places.{fields_in, data_of}
use Rattle.storage.specs.Log.{place_at}
use Rattle.segment.specs.Header.{header_size}
use Rattle.segment.specs.Records.{record_bytes, record_size}
use Rattle.segment.specs.Pair.{offset_size, records_of, offsets_from, data_size}
use Rattle.segment.proofs.Writing.{left, left_all, size_turn, records_next, offsets_next, records_end, offsets_end}
use Rattle.segment_writer.proofs.Log.write_records.Goals as goal

-- where offset n stands
abbrev at_offset : ℕ → ℕ
at_offset n = header_size + offset_size * n

pub loop-n-init : goal.loop-n-init
loop-n-init c =
    let a = c.args in
    let log = a.self.now in
    let e = left_all log.places log.medium.now in record {
      whole = ap (λ (ps : List (List ℕ)). data_size ps) e;
      records = ap (λ (ps : List (List ℕ)). write_at header_size (records_of ps) a.file.now) (sym e);
      offsets = ap (λ (ps : List (List ℕ)). write_at header_size (offsets_from header_size ps) a.index.now) (sym e);
    }

pub overflow_add-end : goal.overflow_add-end
overflow_add-end c =
    let log = c.args.self.now in
    let l = c.loop-n in
    let s = size_turn log.places l.n c.size_of.result log.medium.now c.loop-n-test.true log.sized (c.size_of.ensures ∙ ap record_size c.place-place.ensures.value) in
    omega (arith, s.0, s.1, l.auto.file, l.invariant.whole, c.requires.file_len, c.well_formed)

pub slice_bounds-write_record-end : goal.slice_bounds-write_record-end
slice_bounds-write_record-end c =
    let log = c.args.self.now in
    let l = c.loop-n in
    let s = size_turn log.places l.n c.size_of.result log.medium.now c.loop-n-test.true log.sized (c.size_of.ensures ∙ ap record_size c.place-place.ensures.value) in
    omega (arith, s.0, l.auto.file, l.invariant.whole, c.requires.file_len)

pub write_record-requires-clause-out_len : goal.write_record-requires-clause-out_len
write_record-requires-clause-out_len c =
    let log = c.args.self.now in
    let l = c.loop-n in
    let s = size_turn log.places l.n c.size_of.result log.medium.now c.loop-n-test.true log.sized (c.size_of.ensures ∙ ap record_size c.place-place.ensures.value) in
    length_between l.at (l.at + c.size_of.result) l.file (omega arith) (omega (arith, s.0, l.auto.file, l.invariant.whole, c.requires.file_len)) ∙ omega arith ∙ c.size_of.ensures

pub put_be-requires : goal.put_be-requires
put_be-requires c =
    let l = c.loop-n in
    omega (arith, l.auto.index, c.requires.index_len, c.loop-n-test.true)

pub loop-n-preserved : goal.loop-n-preserved
loop-n-preserved c =
    let p = c.requires in
    let log = c.args.self.now in
    let m = log.medium.now in
    let l = c.loop-n in
    let k = log.places in
    let h = c.loop-n-test.true in
    let size = c.size_of.ensures ∙ ap record_size c.place-place.ensures.value in
    let s = size_turn k l.n c.size_of.result m h log.sized size in
    let end : l.at + c.size_of.result ≡ l.at + record_size (place_at (l.n + 1) m) = omega (arith, size) in
    let next : at_offset l.n + offset_size ≡ at_offset (l.n + 1) = omega arith in record {
      whole = omega (arith, s.0, l.invariant.whole);
      records =
          l.invariant.records
          ∙ records_next k l.n l.at _ m l.file _ h log.inside log.sized (omega (arith, s.0, l.auto.file, l.invariant.whole, p.file_len)) end (c.write_record.ensures ∙ ap (λ (q : List ℕ). record_bytes (fields_in q) (data_of q)) c.place-place.ensures.value);
      offsets =
          l.invariant.offsets
          ∙ offsets_next k l.n (at_offset l.n) l.at _ m l.index _ h (omega (arith, l.auto.index, p.index_len, h)) end c.put_be.ensures
          ∙ ap (λ (i : ℕ). write_at i (offsets_from (l.at + c.size_of.result) (left k (l.n + 1) m)) c.put_be.new.m) next;
    }

pub returns : goal.returns
returns c =
    let log = c.args.self.now in
    let l = c.loop-n in (
      sym (l.invariant.records ∙ records_end log.places l.n l.at log.medium.now l.file c.loop-n-test.false),
      sym (l.invariant.offsets ∙ offsets_end log.places l.n (at_offset l.n) l.at log.medium.now l.index c.loop-n-test.false),
    )
