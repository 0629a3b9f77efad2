-- Laws that the proofs of the driver's functions share.
pub mod Stages
