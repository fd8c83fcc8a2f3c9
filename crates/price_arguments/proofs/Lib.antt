pub mod Prices
pub mod Examples
