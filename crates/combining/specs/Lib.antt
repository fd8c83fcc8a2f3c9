pub mod Combining
pub mod Marks
