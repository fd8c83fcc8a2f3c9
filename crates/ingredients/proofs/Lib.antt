pub mod Parts
pub mod OwnTables
pub mod Standing
pub mod NamedLaws
