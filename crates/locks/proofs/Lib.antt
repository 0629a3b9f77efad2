pub mod Laws
pub mod Conflicts
pub mod NoFalseNegatives
