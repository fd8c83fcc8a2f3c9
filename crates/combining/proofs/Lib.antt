pub mod Combinings
pub mod Factors
pub mod Distinct
pub mod Marks
