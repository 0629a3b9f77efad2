pub mod Fates
pub mod Numbered
