-- `copies::copy_up`: a turn makes a copy or ends the copies.
use mathlib.Core.Path.{◌≡◌, refl, ap}
use Prim.Native.Nat.{◌-◌, ◌+◌}
use Rattle.recovery.specs.Recovery.{Trail}
use Rattle.recovery.proofs.Played.{copies_none, copies_done, copies_stop, copies_on}
use Rattle.recovery.specs.Asked.{trail_of}
use native.Mathlib.Omega.{arith}
use borrow.Author.Rules.{rules}
use Rattle.driver_stages.proofs.copies.copy_up.Goals as goal

pub loop-turn-init : goal.loop-turn-init
loop-turn-init c = let q : c.args.turns - 0 ≡ c.args.turns = omega arith in (refl, omega arith, rw q)

pub returns-then-mark-mark_of : goal.returns-then-mark-mark_of
returns-then-mark-mark_of c =
    let l = c.loop-turn in
    copies_done _ _ _ _ _ (trail_of l.r l.media c.args.tables.now) (c.args.turns - l._turn) l.invariant.2 c.mark_of.ensures c.if-mark-mark_of.true

pub returns-then-not-is_ok : goal.returns-then-not-is_ok
returns-then-not-is_ok c =
    let l = c.loop-turn in
    copies_stop _ _ _ _ _ (trail_of l.r l.media c.args.tables.now) (c.args.turns - l._turn) l.invariant.2 c.mark_of.ensures (omega arith) c.if-mark-mark_of.false c.copy_record-r.ensures c.is_ok.ensures c.if-not-is_ok.true

pub loop-turn-preserved : goal.loop-turn-preserved
loop-turn-preserved c =
    let l = c.loop-turn in
    let q : c.args.turns - l._turn - 1 ≡ c.args.turns - (l._turn + 1) = omega arith in (
      search rules,
      omega (arith, ap (λ (t : Trail). t.count) c.copy_record-r.ensures),
      rw q at (copies_on _ _ _ _ _ (trail_of l.r l.media c.args.tables.now) (c.args.turns - l._turn) l.invariant.2 c.mark_of.ensures (omega arith) c.if-mark-mark_of.false c.copy_record-r.ensures c.is_ok.ensures c.if-not-is_ok.false),
    )

pub returns : goal.returns
returns c =
    let l = c.loop-turn in
    copies_none _ _ _ _ _ (trail_of l.r l.media c.args.tables.now) (c.args.turns - l._turn) l.invariant.2 (omega arith)
