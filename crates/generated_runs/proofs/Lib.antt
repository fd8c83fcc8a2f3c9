pub mod FieldLeads
pub mod FieldPlaces
pub mod FieldRuns
pub mod FieldSheet
pub mod FieldSums
pub mod LevelSums
