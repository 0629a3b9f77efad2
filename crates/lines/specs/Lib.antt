pub mod Words
pub mod Values
pub mod Forms
