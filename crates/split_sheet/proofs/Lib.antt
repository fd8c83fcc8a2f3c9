pub mod Bytes
pub mod Sheet
