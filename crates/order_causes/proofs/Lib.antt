pub mod Prefix
pub mod Numbers
pub mod Readers
pub mod Unreadable
pub mod OutOfRange
