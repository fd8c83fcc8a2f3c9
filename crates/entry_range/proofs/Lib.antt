pub mod Ranges
pub mod Scans
