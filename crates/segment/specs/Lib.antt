pub mod Header
pub mod Records
pub mod Pair
