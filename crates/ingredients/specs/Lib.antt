pub mod Named
pub mod Standing
