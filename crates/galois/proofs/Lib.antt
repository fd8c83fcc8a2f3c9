pub mod Derived
pub mod Fields
pub mod Levels
pub mod Modulo
pub mod Tests
pub mod FieldAlgebra
pub mod Tables
