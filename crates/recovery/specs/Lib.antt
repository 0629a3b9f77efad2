-- A recovery: the calls that it makes and what they leave.
pub mod Recovery
pub mod Arrival
pub mod Asked
