pub mod Cuts
pub mod Steps
pub mod Following
pub mod Scanning
pub mod Bounds
pub mod RoundTrip
pub mod Examples
