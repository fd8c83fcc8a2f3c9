pub mod Differences
pub mod Signs
