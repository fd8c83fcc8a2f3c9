pub mod Pieces
pub mod Serving
pub mod SumMeets
pub mod SumNames
pub mod SumSheet
pub mod Sums
