-- `calls::served`, by its plan: refused, the server stays; else the operation fits the medium (`fits_kind`) and is delivered, with the
-- record that `record_of` finds.
use Rattle.replica_calls.proofs.ByKind.{plan_refuses, plan_does, fits_kind}
use Rattle.replica_calls.proofs.calls.served.Goals as goal

pub deliver-requires : goal.deliver-requires
deliver-requires c =
    let a = c.args in record {
      named = c.requires;
      has_place = fits_kind a.kind a.shape a.v a.i _ a.fate a.given.now c.requires c.in-Ok.ensures;
    }

pub returns-in-Err : goal.returns-in-Err
returns-in-Err c =
    let a = c.args in
    λ r s tables q. plan_refuses a.shape r a.media.now tables s a.i a.fate a.given.now a.v q a.kind _ c.in-Err.ensures c.unchanged_server.ensures

pub returns-in-Ok : goal.returns-in-Ok
returns-in-Ok c =
    let a = c.args in
    λ r s tables q. plan_does a.shape r a.media.now tables s a.i a.fate a.given.now a.v q a.kind c.in-Ok.ensures c.record_of-src.ensures (c.deliver.ensures r s tables q)
