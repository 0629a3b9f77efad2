-- `products::mark`. The invariant of the scan by a sum (`scan::mark_from`), without where the next group begins.
-- Assumes nothing.
use Rattle.std.proofs.Common.{◌≡◌, ℕ, ◌+◌, ◌-◌, ◌*◌, length, drop, ap, ◌∙◌, zero-le, arith, rules}
use Rattle.storage.specs.Sizes.{slots_size, place_size}
use Rattle.lanes.specs.Lanes.{lanes}
use Rattle.scan.specs.Rows.{valid_rows}
use Rattle.storage.proofs.Scan.{mark_le}
use Rattle.scan.proofs.Rows.{scan_start, scan_next, scan_stop, scan_end}
use Rattle.bench.proofs.products.mark.Goals as goal

pub loop-n-init : goal.loop-n-init
loop-n-init c = (zero-le, scan_start c.args.places 0 c.args.m.now zero-le)

pub returns-then-k-lt-LANES : goal.returns-then-k-lt-LANES
returns-then-k-lt-LANES c =
    let x = c.args in
    let l = c.loop-n in
    let a = slots_size + place_size * l.n in
    scan_stop x.places l.n a (a + place_size * lanes - a) c.together-k.result x.m.now l.invariant.1 c.loop-n-test.true
    (omega arith) c.together-k.ensures c.if-k-lt-LANES.true

pub loop-n-preserved : goal.loop-n-preserved
loop-n-preserved c =
    let x = c.args in
    let l = c.loop-n in
    let a = slots_size + place_size * l.n in
    let next : a + place_size * lanes ≡ slots_size + place_size * (l.n + lanes) = omega arith in (
      search rules,
      scan_next x.places l.n a (a + place_size * lanes - a) c.together-k.result x.m.now l.invariant.1 c.loop-n-test.true (omega arith)
          c.together-k.ensures c.if-k-lt-LANES.false
          ∙ ap (λ (o : ℕ). l.n + lanes + valid_rows (x.places - (l.n + lanes)) (l.n + lanes) (drop o x.m.now)) next,
    )

pub overflow_add-result-2 : goal.overflow_add-result-2
overflow_add-result-2 c =
    let x = c.args in
    let l = c.loop-n in
    let a = slots_size + place_size * l.n in
    let e = scan_end x.places l.n a (length x.m.now - a) c.singly.result x.m.now l.invariant.1 (omega (arith, c.requires, l.invariant.0)) c.singly.ensures in
    omega (arith, e, mark_le x.places x.m.now, c.ranges.places)

pub returns : goal.returns
returns c =
    let x = c.args in
    let l = c.loop-n in
    let a = slots_size + place_size * l.n in
    scan_end x.places l.n a (length x.m.now - a) c.singly.result x.m.now l.invariant.1 (omega (arith, c.requires, l.invariant.0)) c.singly.ensures
