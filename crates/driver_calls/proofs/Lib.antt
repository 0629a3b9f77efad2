-- Laws that the proofs of these functions share.
pub mod Codes
pub mod Called
