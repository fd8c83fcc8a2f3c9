pub mod Names
pub mod Meets
