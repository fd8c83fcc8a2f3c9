pub mod Answers
pub mod Padded
pub mod Printed
