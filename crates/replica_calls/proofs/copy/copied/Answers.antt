-- `copy::copied`: refused by `check_copy`, or an append delivered; a passed 16 says that there is a place for it (`copy_room`).
use native.Mathlib.Omega.{arith}
use mathlib.Core.Path.{refl}
use Rattle.cluster.specs.State.{mark_at}
use Rattle.cluster.specs.Refusals.{copy_rows}
use Rattle.checks.proofs.Behind.{no}
use Rattle.replica_calls.proofs.Known.{copy_room}
use Rattle.replica_calls.proofs.Copying.{copy_refuses, copy_does}
use Rattle.replica_calls.proofs.copy.copied.Goals as goal

pub place_of-src-requires : goal.place_of-src-requires
place_of-src-requires c =
    let a = c.args in
    let p = c.requires in
    let e = no (copy_rows a.shape a.v a.media.now a.from a.to a.fate a.given.now) c.in-Ok.ensures 16 in
    let l = copy_room (mark_at a.v a.to) (mark_at a.v a.from) a.shape.places e p.0.mark in record {
      i_bound = ((omega (arith, p.0.replica, p.0.replicas)), (omega arith), (omega (arith, l)), p.0.few);
      places_in_bounds = p.0.within;
    }

pub deliver-requires : goal.deliver-requires
deliver-requires c =
    let a = c.args in
    let p = c.requires in
    let e = no (copy_rows a.shape a.v a.media.now a.from a.to a.fate a.given.now) c.in-Ok.ensures 16 in record {
      named = p.1;
      has_place = (copy_room (mark_at a.v a.to) (mark_at a.v a.from) a.shape.places e p.0.mark, refl);
    }

pub returns-in-Err : goal.returns-in-Err
returns-in-Err c =
    let a = c.args in
    λ r s tables q. copy_refuses a.shape r a.media.now tables s a.from a.to a.fate a.given.now a.v q _ c.in-Err.ensures c.unchanged_server.ensures

pub returns-in-Ok : goal.returns-in-Ok
returns-in-Ok c =
    let a = c.args in
    λ r s tables q. copy_does a.shape r a.media.now tables s a.from a.to a.fate a.given.now a.v q c.in-Ok.ensures c.place_of-src.ensures (c.deliver.ensures r s tables q)
