pub mod Writes
pub mod Pairs
pub mod Spelling
