pub mod Charges
pub mod ChargePromises
pub mod Figures
