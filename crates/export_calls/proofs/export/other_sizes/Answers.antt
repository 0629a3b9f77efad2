-- `export::other_sizes`: the data file's length is tried first, then the index file's, as the definition does (`other_data`, `other_index`).
use borrow.Author.Tests.{ne_eqb}
use Rattle.export_calls.proofs.Exporting.{other_data, other_index}
use Rattle.export_calls.proofs.export.other_sizes.Goals as goal

pub returns-then-file-data_size : goal.returns-then-file-data_size
returns-then-file-data_size c =
    let a = c.args in
    λ files d i. rw (ne_eqb _ _ c.if-file-data_size.true) (other_data a.log.now.places a.log.now.medium.now c.data_size.ensures a.file a.index files d i c.if-file-data_size.true)

pub returns-else-file-data_size : goal.returns-else-file-data_size
returns-else-file-data_size c =
    let a = c.args in
    λ files d i. other_index a.log.now.places a.log.now.medium.now c.data_size.ensures a.file a.index files d i c.if-file-data_size.false
