pub mod Elements
pub mod Example
pub mod Checkpoint
pub mod InFlight
pub mod Recovered
pub mod Restored
