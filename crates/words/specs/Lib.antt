pub mod Words
pub mod Scanner
