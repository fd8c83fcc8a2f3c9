pub mod FieldNamed
pub mod FieldWidths
