pub mod Deviations
pub mod TableVerdicts
pub mod MatrixVerdicts
pub mod GeneratorVerdicts
