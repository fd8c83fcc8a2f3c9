pub mod Parts
pub mod Lookups
pub mod Stands
