-- `header::write_header`: six writes, each behind the one before, are the header (`header_written`).
use mathlib.Core.Path.{◌≡◌}
use lib.ListN.{length}
use native.Mathlib.Omega.{arith}
use Rattle.segment.specs.Header.{key_size}
use Rattle.segment.proofs.Headers.{header_written}
use Rattle.segment.proofs.header.write_header.Goals as goal

pub returns : goal.returns
returns c =
    let a = c.args in
    let k : length a.z.key ≡ key_size = omega arith in
    header_written a.z a.out.now _ _ _ _ _ _ c.requires k c.put_be.ensures c.put_be-2.ensures c.put.ensures c.put_be-3.ensures c.put_be-4.ensures c.clear.ensures
