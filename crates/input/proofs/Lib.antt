pub mod Scanning
pub mod Answers
