-- `convert::write_new`: the three writes are the new medium (`all_written`).
use native.Mathlib.Omega.{arith}
use Rattle.converter.proofs.Converting.{mark_le, all_written}
use Rattle.converter.proofs.convert.write_new.Goals as goal

pub overflow_mul-k : goal.overflow_mul-k
overflow_mul-k c = omega (arith, c.renew_log-k.ensures.0, mark_le c.args.places c.args.m.now, c.requires.out_len, c.well_formed)

pub overflow_add-k : goal.overflow_add-k
overflow_add-k c = omega (arith, c.renew_log-k.ensures.0, mark_le c.args.places c.args.m.now, c.requires.out_len, c.well_formed)

pub slice_bounds-clear-count : goal.slice_bounds-clear-count
slice_bounds-clear-count c = omega (arith, c.renew_log-k.ensures.0, mark_le c.args.places c.args.m.now, c.requires.out_len)

pub slice_bounds-clear-start : goal.slice_bounds-clear-start
slice_bounds-clear-start c = omega (arith, c.renew_log-k.ensures.0, mark_le c.args.places c.args.m.now, c.requires.out_len)

pub returns : goal.returns
returns c =
    let a = c.args in
    all_written a.places c.renew_log-k.result a.m.now a.out.now _ _ _ c.requires.m_len c.requires.out_len c.renew_log-k.ensures.0 c.put.ensures c.renew_log-k.ensures.1 c.clear.ensures
