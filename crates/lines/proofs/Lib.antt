pub mod Same
pub mod Numbers
pub mod Bare
pub mod Gives
pub mod Counts
