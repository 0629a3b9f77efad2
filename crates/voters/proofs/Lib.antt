pub mod Voting
