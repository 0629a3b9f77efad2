pub mod Rows
mod SideBySide
