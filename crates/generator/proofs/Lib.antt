pub mod Chosen
pub mod Worked
