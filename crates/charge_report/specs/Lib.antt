pub mod ChargeReport
