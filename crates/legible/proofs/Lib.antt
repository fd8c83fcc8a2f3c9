pub mod Places
pub mod ReadBack
pub mod Parts
pub mod Closed
pub mod Widths
pub mod Rows
pub mod Faithful
