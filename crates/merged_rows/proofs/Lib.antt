pub mod Rows
pub mod Stops
