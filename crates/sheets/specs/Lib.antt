pub mod Buffers
pub mod Refusals
pub mod Ingredients
pub mod Steps
pub mod Naming
pub mod Outcome
pub mod Fillable
