-- AS MANY TURNS AS A REPLICA LACKS ARE ENOUGH, in every recovery that comes to its copies: wherever it is in its list of replicas, with more turns the same
-- copies are made. So the bound in the definition (specs/Recovery `copies`) is none: copying ends because the mark is reached or a copy is without ok.
-- In any state with four servers, as the type says. The statement comes first; the theorem is `enough`.
-- Assumes nothing.
use mathlib.Core.Path.{◌≡◌}
use mathlib.Core.Bool.{true}
use mathlib.Core.List.{List}
use Prim.Native.Nat.{ℕ, ◌≤◌}
use native.Mathlib.Omega.{arith}
use lib.ListN.{length}
use Rattle.cluster.specs.declared.Shape.{Shape}
use Rattle.cluster.specs.State.{State}
use Rattle.cluster.specs.Refusals.{pass, first_of}
use Rattle.recovery.specs.Recovery.{Recovery, played, is_ok, server_of, copies, lacks, all_copies, recovery_rows}
use Rattle.recovery.specs.Arrival.{taken, prepared}
use Rattle.recovery.proofs.Own.{own}
use Rattle.recovery.proofs.Staying.{underway_prepares, underway_all}
use Rattle.recovery.proofs.Opening.{odd_replicas}
use Rattle.recovery.proofs.Turns.{turns_enough}
use Rattle.recovery.proofs.Refused.{on_its_way}

abbrev pub TurnsEnough : Type 0
TurnsEnough = (h : Shape) (x : State) (d : Recovery) → length x.records.servers ≡ 4 → first_of (recovery_rows h x d) ≡ pass → is_ok (taken h x d).reply ≡ true
    → (is : List ℕ) (a m b k : ℕ) → let t = played h (prepared h x d) (all_copies h d a m (prepared h x d) is) in
    lacks (server_of d t) m b ≤ k → copies h d a m b k t ≡ copies h d a m b (lacks (server_of d t) m b) t

pub enough : TurnsEnough
enough h x d four e o is a m b k l =
    let t = played h (prepared h x d) (all_copies h d a m (prepared h x d) is) in
    let U = underway_all h d _ a m is (prepared h x d) (underway_prepares h d _ d.listed (taken h x d) (on_its_way h x d four e o)) in
    turns_enough h d _ (odd_replicas h _ _ (own h x d e).steady.inside).most a m b (lacks (server_of d t) m b) k t U (omega arith) l
