-- `after_take`: prepares, copies and open one after another (`after_take_is`); the mark is at most N, so that the calls can be counted (proofs/Stages).
use Prim.Native.Nat.{◌+◌, ◌≤◌}
use lib.ListN.{length}
use Rattle.recovery.proofs.Played.{after_take_is}
use Rattle.recovery.specs.Asked.{recovery_of, trail_of}
use Rattle.driver.proofs.Stages.{count_prepared, mark_prepared, count_copied}
use native.Mathlib.Omega.{arith}
use Rattle.driver.proofs.after_take.Goals as goal

pub catch_up-c-requires : goal.catch_up-c-requires
catch_up-c-requires c =
    let a = c.args in
    let p = c.requires in
    let d = a.asked.now in
    let t = trail_of a.g a.media.now a.tables.now in
    let e = c.prepare_all-p.ensures in
    let n = p.server_bound in
    let few : a.g.calls + length d.listed.now ≤ 8 = omega (arith, p.calls_bound, n.2.few) in record {
      server_bound = (n.0, n.2);
      calls_bound = (count_prepared d.shape (recovery_of d) t e few, mark_prepared d.shape (recovery_of d) t e few (record { inside = p.tables_value.0; fits = p.tables_value.1 }) n.0 n.1);
    }

pub open_session-requires : goal.open_session-requires
open_session-requires c =
    let a = c.args in
    let p = c.requires in
    let d = a.asked.now in
    let t = trail_of a.g a.media.now a.tables.now in
    let n = p.server_bound in
    let few : a.g.calls + length d.listed.now ≤ 8 = omega (arith, p.calls_bound, n.2.few) in
    count_copied d.shape (recovery_of d) t c.prepare_all-p.ensures few (record { inside = p.tables_value.0; fits = p.tables_value.1 }) n.0 n.1 c.catch_up-c.ensures n.2.few

pub returns : goal.returns
returns c =
    let a = c.args in
    after_take_is a.asked.now.shape _ (trail_of a.g a.media.now a.tables.now) c.prepare_all-p.ensures c.catch_up-c.ensures c.open_session.ensures
