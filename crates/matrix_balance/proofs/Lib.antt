pub mod Values
pub mod Columns
pub mod Listed
