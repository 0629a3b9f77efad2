pub mod Vote
