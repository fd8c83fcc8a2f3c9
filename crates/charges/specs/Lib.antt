pub mod Charge
pub mod ChargePromise
