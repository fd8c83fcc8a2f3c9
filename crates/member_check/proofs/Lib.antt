pub mod Members
pub mod Needed
