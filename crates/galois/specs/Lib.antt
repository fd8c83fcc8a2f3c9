pub mod Arithmetic
pub mod Levels
pub mod Laws
pub mod Combination
pub mod Operands
