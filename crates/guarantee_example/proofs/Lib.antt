-- Outline: how the history and the guarantee's premise are read off replies. Worked, Fitting: the same for lists of this crate. Written: what the
-- written-out states are made of. Flat: the calls that a list with recoveries stands for. States, Parts: the replies of specs/Example.antt, worked out.
-- Example, Checkpoint, InFlight, Recovered, Restored: what the guarantee says of each list.
pub mod Outline
pub mod Worked
pub mod Fitting
pub mod Written
pub mod States
pub mod Parts
pub mod Example
pub mod Checkpoint
pub mod InFlight
pub mod Flat
pub mod Recovered
pub mod Restored
