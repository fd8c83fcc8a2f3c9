pub mod Input
pub mod Answering
