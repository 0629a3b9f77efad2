-- `run`: a take without ok ends it (`from_take_ends`), one with ok goes on (`from_take_goes_on`).
use mathlib.Core.Path.{ap}
use Rattle.checks.specs.Results.{state_of}
use Rattle.recovery.specs.Recovery.{Trail}
use Rattle.recovery.proofs.Played.{start, from_take_ends, from_take_goes_on, recovered_passed}
use Rattle.recovery.specs.Asked.{recovery_of}
use Rattle.driver.proofs.Stages.{known, after_take_lem}
use native.Mathlib.Omega.{arith}
use Rattle.driver.proofs.run.Goals as goal

pub returns-then-not-is_ok : goal.returns-then-not-is_ok
returns-then-not-is_ok c =
    let a = c.args in
    let h = a.asked.now.shape in
    let d = recovery_of a.asked.now in
    let x = state_of a.records a.media.now a.tables.now in
    recovered_passed h d x c.requires (from_take_ends h d (start h d x) c.take_session-t.ensures c.is_ok.ensures c.if-not-is_ok.true)

pub after_take-requires : goal.after_take-requires
after_take-requires c =
    let a = c.args in
    let q = a.asked.now in
    let d = recovery_of q in
    let x = state_of a.records a.media.now a.tables.now in
    let k = known q.shape x q.server q.listed.now q.fates.now q.given.now c.requires in
    let e = c.take_session-t.ensures in
    let s = after_take_lem q.shape d (start q.shape d x) e k.steady in record {
      tables_value = (s.inside, s.fits);
      server_bound = (k.server, k.below, k.named);
      calls_bound = omega (arith, ap (λ (t : Trail). t.count) e);
    }

pub returns : goal.returns
returns c =
    let a = c.args in
    let h = a.asked.now.shape in
    let d = recovery_of a.asked.now in
    let x = state_of a.records a.media.now a.tables.now in
    recovered_passed h d x c.requires (from_take_goes_on h d (start h d x) c.take_session-t.ensures c.is_ok.ensures c.if-not-is_ok.false c.after_take.ensures)
