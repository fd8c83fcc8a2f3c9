pub mod WrittenTable
pub mod CheckPromise
pub mod CheckInNumbers
