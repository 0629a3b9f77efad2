-- `segments::write_out`: the whole log, up to its mark; its files are not longer than the arrays (`sizes_bound`).
use mathlib.Core.Path.{◌≡◌, ◌∙◌}
use Prim.Native.Nat.{ℕ, ◌+◌, ◌-◌, ◌*◌, ◌≤◌}
use lib.ListN.{replicate}
use native.Mathlib.Omega.{arith}
use Rattle.octets.proofs.Laws.{length_between}
use Rattle.storage.proofs.Scan.{mark_le}
use Rattle.segment.proofs.Writing.{all_sized, sizes_bound}
use Rattle.vectors.proofs.segments.write_out.Goals as goal

pub invariant_of-log : goal.invariant_of-log
invariant_of-log g c =
    let a = c.args in
    let p = c.requires in
    let m = a.m.now in
    let l = mark_le a.places m in record {
      inside = omega (arith, p, l, c.mark-k.ensures);
      sized = all_sized a.places _ m (omega (arith, c.mark-k.ensures));
      few = omega (arith, p, l, c.mark-k.ensures);
    }

pub overflow_mul-end : goal.overflow_mul-end
overflow_mul-end g c = omega (arith, c.mark-k.ensures, mark_le c.args.places c.args.m.now, c.requires)

pub overflow_add-end : goal.overflow_add-end
overflow_add-end g c = omega (arith, c.mark-k.ensures, mark_le c.args.places c.args.m.now, c.requires)

pub slice_bounds-file-end : goal.slice_bounds-file-end
slice_bounds-file-end g c =
    let a = c.args in
    omega (arith, sizes_bound c.mark-k.result c.mark-k.result 1 a.m.now (all_sized a.places c.mark-k.result a.m.now (omega (arith, c.mark-k.ensures))) (omega arith) (omega arith), c.data_size-size.ensures, c.mark-k.ensures, mark_le a.places a.m.now, c.requires)

pub slice_bounds-index-end : goal.slice_bounds-index-end
slice_bounds-index-end g c = omega (arith, c.mark-k.ensures, mark_le c.args.places c.args.m.now, c.requires)

pub print_pair-requires : goal.print_pair-requires
print_pair-requires g c =
    let a = c.args in
    let p = c.requires in
    let l = mark_le a.places a.m.now in
    let k = c.mark-k.ensures in
    let n = c.data_size-size.result in
    let e = 128 + 8 * c.mark-k.result in
    let file-size : n - 0 ≡ n = omega arith in
    let index_size_lem : e - 0 ≡ e = omega arith in
    let short : n ≤ 1136 = omega (arith, sizes_bound c.mark-k.result c.mark-k.result 1 a.m.now (all_sized a.places c.mark-k.result a.m.now (omega (arith, c.mark-k.ensures))) (omega arith) (omega arith), c.data_size-size.ensures, k, l, p) in
    let file = length_between 0 n (replicate {A = ℕ} 1136 0) (omega arith) (omega (arith, short)) ∙ file-size in
    let index = length_between 0 e (replicate {A = ℕ} 240 0) (omega arith) (omega (arith, p, l, k)) ∙ index_size_lem in record {
      file_len = (file ∙ c.data_size-size.ensures, omega (arith, file, short));
      index_len = (index, omega (arith, p, l, k));
    }
