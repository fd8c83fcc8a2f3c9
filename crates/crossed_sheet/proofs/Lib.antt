pub mod Crossed
pub mod Beside
