pub mod Table
pub mod Matrix
pub mod Generator
pub mod Verdict
pub mod GeneratorVerdict
pub mod Checkable
pub mod Failures
