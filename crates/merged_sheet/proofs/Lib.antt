pub mod Settled
pub mod Sheet
