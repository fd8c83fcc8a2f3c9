pub mod DigitValues
pub mod Written
