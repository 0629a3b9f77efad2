pub mod Xor
pub mod Steps
pub mod Rows
pub mod Words
pub mod Sealed
pub mod Example
