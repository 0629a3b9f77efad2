pub mod OldRecords
