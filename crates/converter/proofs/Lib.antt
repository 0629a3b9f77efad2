pub mod Converting
pub mod Verdicts
pub mod Conversion
