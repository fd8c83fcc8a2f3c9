pub mod Readings
pub mod Written
pub mod CheckPromises
pub mod ChecksInNumbers
pub mod Figures
