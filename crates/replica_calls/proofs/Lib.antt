pub mod ByKind
pub mod Copying
pub mod Known
