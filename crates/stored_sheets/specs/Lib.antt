pub mod Repeated
pub mod StoredSheets
