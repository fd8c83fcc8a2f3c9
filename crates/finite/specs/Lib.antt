pub mod Sum
pub mod First
pub mod Greatest
pub mod Lists
pub mod Digits
pub mod Tabulated
pub mod Pairs
