pub mod Bytes
pub mod Operands
pub mod Rows
pub mod Sheets
