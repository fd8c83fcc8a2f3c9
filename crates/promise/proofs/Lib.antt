pub mod Promises
pub mod PromisesInNumbers
