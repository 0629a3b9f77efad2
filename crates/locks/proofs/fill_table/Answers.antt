-- `locks::fill_table` meets its contract: a row more holds the mark, and the four rows are the table.
-- Assumes nothing.
use Rattle.std.proofs.Common.{◌≡◌, ℕ, ◌+◌, ◌*◌, ◌≤◌, List, length, replicate, take, sym, ◌∙◌, arith}
use Rattle.std.proofs.lemmas.Slice.{take-put_mid}
use Rattle.std.proofs.lemmas.List.{replicate-append-replicate, length-replicate, take_all}
use borrow.Rule.Slice.PartMut.{put_mid}
use Rattle.locks.proofs.fill_table.Goals as goal

row_more : (i k mark : ℕ) (table row : List ℕ) → 256 * i + 256 ≤ length table → row ≡ replicate 256 mark → take (256 * i) table ≡ replicate (256 * i) mark → take (256 * (i + 1)) (put_mid (256 * i) k table row) ≡ replicate (256 * (i + 1)) mark
row_more i k mark table row l er h =
    let n : length row ≡ 256 = rw er (length-replicate 256 mark) in
    let q : 256 * i + 256 ≡ 256 * (i + 1) = omega arith in
    take-put_mid (256 * i) k table row (256 * (i + 1)) (omega arith) (omega arith)
    ∙ rw (h, er, ← q) (replicate-append-replicate (256 * i) 256 mark)

pub loop-i-preserved : goal.loop-i-preserved
loop-i-preserved c = row_more _ _ _ _ _ (omega arith) c.copy_from_slice.ensures.after c.loop-i.invariant

pub returns : goal.returns
returns c =
    let l = c.loop-i in
    let e : l.i ≡ 4 = omega arith in
    sym (take_all 1024 l.table (omega arith)) ∙ rw e at l.invariant
