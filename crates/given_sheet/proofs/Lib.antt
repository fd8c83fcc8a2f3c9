pub mod Given
pub mod Sheet
