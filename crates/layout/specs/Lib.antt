pub mod Bytes
pub mod Step
