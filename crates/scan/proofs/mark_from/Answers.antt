-- `scan::mark_from`. The invariant: n places are valid, those from a on are left, and both make the mark.
use mathlib.Core.Path.{refl}
use Prim.Native.Nat.{◌+◌, ◌-◌, ◌*◌}
use lib.ListN.{length}
use Rattle.lanes.specs.Lanes.{lanes}
use Rattle.storage.specs.Sizes.{place_size}
use Rattle.storage.proofs.Scan.{mark_le}
use Rattle.scan.proofs.Rows.{scan_start, scan_next, scan_stop, scan_end}
use native.Mathlib.Omega.{arith}
use borrow.Author.Rules.{rules}
use Rattle.scan.proofs.mark_from.Goals as goal

pub overflow_mul-a : goal.overflow_mul-a
overflow_mul-a c =
    let x = c.args in
    omega (arith, mark_le x.places x.m.now, c.requires)

pub overflow_add-a : goal.overflow_add-a
overflow_add-a c =
    let x = c.args in
    omega (arith, mark_le x.places x.m.now, c.requires)

pub loop-n-init : goal.loop-n-init
loop-n-init c =
    let x = c.args in (
      omega (arith, mark_le x.places x.m.now, c.requires.known_bound),
      refl,
      scan_start x.places x.known x.m.now c.requires.known_bound,
    )

pub returns-then-k-lt-LANES : goal.returns-then-k-lt-LANES
returns-then-k-lt-LANES c =
    let x = c.args in
    let l = c.loop-n in
    scan_stop x.places l.n l.a (l.a + place_size * lanes - l.a) c.together-k.result x.m.now l.invariant.2 c.loop-n-test.true
    (omega arith) c.together-k.ensures c.if-k-lt-LANES.true

pub loop-n-preserved : goal.loop-n-preserved
loop-n-preserved c =
    let x = c.args in
    let l = c.loop-n in (
      search rules,
      omega (arith, l.invariant.1),
      scan_next x.places l.n l.a (l.a + place_size * lanes - l.a) c.together-k.result x.m.now l.invariant.2 c.loop-n-test.true
          (omega arith) c.together-k.ensures c.if-k-lt-LANES.false,
    )

pub overflow_add-result-2 : goal.overflow_add-result-2
overflow_add-result-2 c =
    let x = c.args in
    let l = c.loop-n in
    let e = scan_end x.places l.n l.a (length x.m.now - l.a) c.singly.result x.m.now l.invariant.2 (omega (arith, c.requires, l.invariant)) c.singly.ensures in
    omega (arith, e, mark_le x.places x.m.now, c.ranges.places)

pub returns : goal.returns
returns c =
    let x = c.args in
    let l = c.loop-n in
    scan_end x.places l.n l.a (length x.m.now - l.a) c.singly.result x.m.now l.invariant.2 (omega (arith, c.requires, l.invariant)) c.singly.ensures
