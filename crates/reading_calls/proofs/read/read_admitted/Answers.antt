-- `read::read_admitted`: refused by `check_read`, or sent; a passed 16 says that the ID is one of the places (`readable`).
use native.Mathlib.Omega.{arith}
use Rattle.cluster.specs.State.{server_at}
use Rattle.cluster.specs.Refusals.{read_rows}
use Rattle.checks.proofs.Behind.{no}
use Rattle.checks.proofs.Frame.{refused, goes_on}
use Rattle.reading_calls.proofs.Reading.{readable}
use Rattle.reading_calls.proofs.read.read_admitted.Goals as goal

pub read_sent-requires : goal.read_sent-requires
read_sent-requires c =
    let a = c.args in
    let p = c.requires in
    let e = no (read_rows a.shape (server_at a.records a.s) a.i a.id a.fate a.given.now) c.in-Ok.ensures 16 in
    let w = readable (server_at a.records a.s) a.i a.id e in record {
      named = (p.0, p.1, w.0, omega (arith, w.1, p.0.mark));
    }

pub returns-in-Err : goal.returns-in-Err
returns-in-Err c =
    let a = c.args in
    λ tables.
    refused a.records a.media.now tables _ (read_rows a.shape (server_at a.records a.s) a.i a.id a.fate a.given.now) _ _ c.in-Err.ensures c.declined.ensures

pub returns-in-Ok : goal.returns-in-Ok
returns-in-Ok c =
    let a = c.args in
    λ tables.
    goes_on a.records a.media.now tables _ (read_rows a.shape (server_at a.records a.s) a.i a.id a.fate a.given.now) _ c.in-Ok.ensures (c.read_sent.ensures a.given.now tables)
