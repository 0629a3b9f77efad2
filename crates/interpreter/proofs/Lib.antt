pub mod Fed
pub mod Pieces
