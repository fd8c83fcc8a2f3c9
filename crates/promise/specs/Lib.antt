pub mod Promise
pub mod PromiseInNumbers
