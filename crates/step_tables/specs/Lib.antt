pub mod Lists
pub mod Sheet
pub mod Field
pub mod Sum
pub mod Cross
pub mod Merge
pub mod Split
