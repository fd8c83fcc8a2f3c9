pub mod Roles
pub mod Runs
