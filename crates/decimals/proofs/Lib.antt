pub mod Decimals
pub mod Signed
