pub mod Laws
pub mod Reach
pub mod Filling
pub mod Decided
pub mod Same
