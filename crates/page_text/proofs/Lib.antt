pub mod Aligned
pub mod Counts
pub mod Lines
pub mod Rooms
