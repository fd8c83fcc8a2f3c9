pub mod Lists
pub mod Padded
pub mod Pieces
