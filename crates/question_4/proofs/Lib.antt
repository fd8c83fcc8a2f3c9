pub mod Copies
pub mod Checking
pub mod Questions
