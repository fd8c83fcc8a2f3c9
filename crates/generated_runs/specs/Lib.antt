pub mod FieldPlaces
pub mod LevelSums
