-- `export::export_admitted`: refused by `check_message`, and the files stay (`declined_files`), or sent.
use Rattle.segment.specs.Pair.{pair_of}
use Rattle.cluster.specs.State.{server_at}
use Rattle.cluster.specs.Refusals.{message_rows, exported_places}
use Rattle.checks.specs.Results.{files_of}
use Rattle.checks.proofs.Frame.{refused, goes_on}
use Rattle.export_calls.proofs.Exporting.{declined_files}
use Rattle.export_calls.proofs.export.export_admitted.Goals as goal

pub returns-in-Err : goal.returns-in-Err
returns-in-Err c =
    let a = c.args in
    let v = server_at a.records a.s in (
      λ tables.
          refused a.records a.media.now tables _ (message_rows a.shape v a.i a.fate a.given.now) _ _ c.in-Err.ensures c.declined.ensures,
      declined_files a.records (pair_of a.stamp (exported_places a.shape.places v a.i a.media.now)) (files_of a.file.now a.index.now) c.declined.ensures,
    )

pub returns-in-Ok : goal.returns-in-Ok
returns-in-Ok c =
    let a = c.args in
    let v = server_at a.records a.s in (
      λ tables.
          goes_on a.records a.media.now tables _ (message_rows a.shape v a.i a.fate a.given.now) _ c.in-Ok.ensures
          (c.export_sent.ensures.0 a.given.now tables),
      c.export_sent.ensures.1,
    )
