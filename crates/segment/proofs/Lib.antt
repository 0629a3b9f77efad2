pub mod Headers
pub mod Written
pub mod Writing
