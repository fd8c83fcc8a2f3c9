pub mod PagePromise
