pub mod PagePromises
