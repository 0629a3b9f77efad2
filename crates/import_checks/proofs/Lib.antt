pub mod Wiped
pub mod Judged
pub mod ReadingLengths
pub mod ReadingHeaders
pub mod ReadingPass
