-- `segments::print_pair`: the files have the lengths that the log's have.
use Rattle.vectors.proofs.segments.print_pair.Goals as goal

pub write_pair-requires : goal.write_pair-requires
write_pair-requires g c = record { file_len = c.requires.file_len.0; index_len = c.requires.index_len.0 }
