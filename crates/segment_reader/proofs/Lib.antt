pub mod RecordTests
pub mod ReadingRecords
