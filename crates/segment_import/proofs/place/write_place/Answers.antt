-- `place::write_place`: the record's numbers, its data, zeros behind them, and the place's check (`place_written`).
use native.Mathlib.Omega.{arith}
use Rattle.octets.proofs.Bytes.{bytes_known}
use Rattle.segment.proofs.Writing.{size_is}
use Rattle.segment_import.proofs.Filling.{place_written}
use borrow.Author.Rules.{rules}
use Rattle.segment_import.proofs.place.write_place.Goals as goal

pub length_field-k-requires : goal.length_field-k-requires
length_field-k-requires c = omega (arith, size_is c.args.s.now, c.requires.s_in_bounds)

pub slice_bounds-put-end : goal.slice_bounds-put-end
slice_bounds-put-end c = omega (arith, size_is c.args.s.now, c.requires.s_in_bounds)

pub slice_bounds-put-end-2 : goal.slice_bounds-put-end-2
slice_bounds-put-end-2 c = omega (arith, size_is c.args.s.now, c.requires.s_in_bounds, c.length_field-k.ensures)

pub returns : goal.returns
returns c =
    let a = c.args in
    let p = c.requires in
    let s = a.s.now in
    place_written s a.out.now (bytes_known s (search rules)) p.out_len p.s_bound p.s_in_bounds _ _ _ _ _ c.length_field-k.ensures c.put.ensures c.put-2.ensures c.clear.ensures c.seal.ensures
