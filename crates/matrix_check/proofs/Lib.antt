pub mod Found
pub mod Told
pub mod Rows
