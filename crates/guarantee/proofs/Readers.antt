-- WHO IS DECLINED BY 15 HAS SOMETHING LEFT TO READ OR TO WAIT FOR: `readers`. The statement is specs/Readers.antt.
-- Assumes nothing.
use Prim.Native.Nat.{◌+◌}
use native.Mathlib.Omega.{arith}
use borrow.Author.Tests.{leb-false}
use Rattle.protocol.specs.State as protocol
use Rattle.cluster.specs.declared.Shape.{Shape}
use Rattle.cluster.specs.declared.Call.TheVariants as call
use Rattle.cluster.specs.State.{State, window, server_at}
use Rattle.cluster.specs.Refusals.{Input, rows_of}
use Rattle.cluster.proofs.Rows.{passed}
use Rattle.cluster.proofs.Numbers.{until}
use Rattle.cluster.proofs.Locked.{locked_exactly}
use Rattle.guarantee.specs.History.{History, with_call}
use Rattle.guarantee.specs.Readers.{Unread, Waiting, Unlocked, Readers}
use Rattle.guarantee.proofs.Ties.{Sim}
use Rattle.guarantee.proofs.Passing.{below_four, is_open_lem}
use Rattle.guarantee.proofs.Along.{from_fresh}

-- no estimate is above what is issued, and 13 comes before 15
unread : (h : Shape) (x : State) (H : History) (σ : protocol.State) → Sim h x H σ → Unread h x
unfolding until
unread h x H σ S s q a values r =
    let p : Input = with_call (call.Issue s q) a in
    let d = (locked_exactly h x s q a.content a.locks a.given a.stamp a.files a.backup values).0 r in
    let none = passed (until 15 (rows_of h x p)) d.0 in
    let v = server_at x.records s in
    let row = (S.servers.each s (below_four s (none 3))).serving (is_open_lem v.phase (none 5)) in
    let k = d.1.lock in
    let first = d.1.first in (
      k,
      d.1.estimate,
      d.1.given,
      first.above,
      omega (arith, first.estimate, row.estimate k, row.entered k, row.issued),
      leb-false (v.acked + window) v.issued (none 13),
    )

waiting : (h : Shape) (x : State) → Unread h x → Waiting h x
waiting h x u s q arguments values read r =
    let b = u s q arguments values r in
    (b.0, b.1, b.2, omega (arith, read, b.3), b.4)

unlocked : (h : Shape) (x : State) → Unread h x → Unlocked h x
unlocked h x u s q arguments values read r =
    let b = u s q arguments values r in
    omega (arith, read, b.3, b.4)

pub readers : Readers
readers h range es a =
    let w = from_fresh h range es a in
    let u = unread h _ _ w.state w.tied.sim in
    (u, waiting h _ u, unlocked h _ u)
