pub mod Order
pub mod Reader
pub mod Grammar
pub mod Answers
pub mod Range
